-- The invariant: the rows at the first i places have their variants (`Passing`). Assumes nothing.
use Rattle.copy_rows.proofs.Varying.{Passing}
use Rattle.copy_rows.proofs.vary_rows.Given as goal

abbrev pub invariant-loop-i : goal.invariant-loop-i
invariant-loop-i l = Passing l.n l.i l.initial.work l.work
