-- The invariant: the rows at the first i places have their sums (`Passing`). Assumes nothing.
use native.Mathlib.Omega.{arith}
use Rattle.count_weights.proofs.Summing.{passing-readable, passing-more, passing-end}
use Rattle.count_weights.proofs.sum_rows.Goals as goal

pub sum_row-requires : goal.sum_row-requires
sum_row-requires c = passing-readable c.requires c.loop-i.invariant c.order_at-r.ensures (omega arith)

pub loop-i-preserved : goal.loop-i-preserved
loop-i-preserved c = passing-more c.requires c.loop-i.invariant c.loop-i-test.true c.order_at-r.ensures c.sum_row.ensures

pub returns : goal.returns
returns c = passing-end c.requires c.loop-i.invariant c.loop-i-test.false
