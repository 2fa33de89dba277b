-- Each test is one of `enough_lent`. Assumes nothing.
use Rattle.forest.specs.Walk.{enough_lent}
use Rattle.walk_lent.proofs.enough_lent.Goals as goal

pub returns : goal.returns
unfolding enough_lent
returns c = rw (c.enough_work.ensures, c.enough_cursor.ensures, c.enough_answers.ensures)
