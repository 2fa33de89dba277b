-- The invariant: the rows at the first i places have their tasks (`Passing`). Assumes nothing.
use Rattle.spread_stack.proofs.Tasking.{passing-steps, passing-more, passing-end}
use native.Mathlib.Omega.{arith}
use Rattle.spread_stack.proofs.task_rows.Goals as goal

pub task_row-requires : goal.task_row-requires
task_row-requires c = passing-steps c.requires c.loop-i.invariant c.order_at-r.ensures (omega arith)

pub loop-i-preserved : goal.loop-i-preserved
loop-i-preserved c = passing-more c.requires c.loop-i.invariant c.loop-i-test.true c.order_at-r.ensures c.task_row.ensures

pub returns : goal.returns
returns c = passing-end c.requires c.loop-i.invariant c.loop-i-test.false
