-- A count of a row is a number of ten bytes there. Assumes nothing.
use Rattle.work_rows.specs.Rows.{put_field}
use Rattle.count_capped.proofs.put_count.Goals as goal

pub returns : goal.returns
unfolding put_field
returns c = c.write.ensures
