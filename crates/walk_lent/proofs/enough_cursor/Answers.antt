-- The test is that of `enough_cursor`. Assumes nothing.
use Rattle.forest.specs.Walk.{cursor_words}
use Rattle.walk_lent.proofs.enough_cursor.Goals as goal

pub returns : goal.returns
unfolding cursor_words
returns c = rw c.word_count.ensures
