-- The invariant: the rows at the first i places have their counts (`Passing`). Assumes nothing.
use Rattle.compare_nodes.proofs.Counting.{Passing}
use Rattle.compare_nodes.proofs.nodes_rows.Given as goal

abbrev pub invariant-loop-i : goal.invariant-loop-i
invariant-loop-i l = Passing l.n l.i l.initial.work l.work
