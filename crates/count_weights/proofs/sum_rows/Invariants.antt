-- The invariant: the rows at the first i places have their sums (`Passing`). Assumes nothing.
use Rattle.count_weights.proofs.Summing.{Passing}
use Rattle.count_weights.proofs.sum_rows.Given as goal

abbrev pub invariant-loop-i : goal.invariant-loop-i
invariant-loop-i l = Passing l.n l.i l.initial.work l.work
