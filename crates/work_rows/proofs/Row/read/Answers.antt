-- The four reads are those of `row_at`. Assumes nothing.
use Rattle.work_rows.specs.Rows.{row_at}
use Rattle.work_rows.proofs.Row.read.Goals as goal

pub returns : goal.returns
unfolding row_at
returns c = λ i. record { kind = c.field16.ensures i; label = c.field32.ensures i; one = c.field16-2.ensures i; two = c.field16-3.ensures i }
