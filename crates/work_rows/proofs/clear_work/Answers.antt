-- The bytes are those of the words that n rules need. Assumes nothing.
use Rattle.work_rows.proofs.clear_work.Goals as goal

pub returns : goal.returns
returns c = rw c.work_words-words.ensures at c.clear.ensures
