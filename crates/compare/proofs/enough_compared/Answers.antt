-- Each test is one of `enough_compared`. Assumes nothing.
use Rattle.forest.specs.Compare.{enough_compared}
use Rattle.compare.proofs.enough_compared.Goals as goal

pub returns : goal.returns
unfolding enough_compared
returns c = rw (c.enough_work.ensures, c.enough_cursor.ensures, c.enough_cursor-2.ensures)
