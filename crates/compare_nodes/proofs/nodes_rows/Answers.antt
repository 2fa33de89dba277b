-- The invariant: the rows at the first i places have their counts (`Passing`). Assumes nothing.
use Rattle.compare_nodes.proofs.Counting.{passing-readable, passing-more, passing-end}
use native.Mathlib.Omega.{arith}
use Rattle.compare_nodes.proofs.nodes_rows.Goals as goal

pub nodes_row-requires : goal.nodes_row-requires
nodes_row-requires c = passing-readable c.requires c.loop-i.invariant c.order_at-r.ensures (omega arith)

pub loop-i-preserved : goal.loop-i-preserved
loop-i-preserved c = passing-more c.requires c.loop-i.invariant c.loop-i-test.true c.order_at-r.ensures c.nodes_row.ensures

pub returns : goal.returns
returns c = passing-end c.requires c.loop-i.invariant c.loop-i-test.false
