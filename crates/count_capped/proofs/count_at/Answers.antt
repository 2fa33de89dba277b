-- A count of a row is a number of ten bytes there. Assumes nothing.
use Rattle.work_rows.specs.Rows.{field}
use Rattle.count_capped.proofs.count_at.Goals as goal

pub returns : goal.returns
unfolding field
returns c = c.read.ensures
