-- The invariant: the rows at the first i places have their variants (`Passing`). Assumes nothing.
use Rattle.copy_rows.proofs.Varying.{passing-readable, passing-more, passing-end}
use native.Mathlib.Omega.{arith}
use Rattle.copy_rows.proofs.vary_rows.Goals as goal

pub vary_row-requires : goal.vary_row-requires
vary_row-requires c = passing-readable c.requires.0 c.loop-i.invariant c.requires.1 c.order_at-r.ensures (omega arith)

pub loop-i-preserved : goal.loop-i-preserved
loop-i-preserved c = passing-more c.requires.0 c.loop-i.invariant c.loop-i-test.true c.order_at-r.ensures c.vary_row.ensures

pub returns : goal.returns
returns c = passing-end c.requires.0 c.loop-i.invariant c.loop-i-test.false
