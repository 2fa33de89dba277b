-- The invariant: the rows at the first i places have their numbers (`Passing`). Assumes nothing.
use Rattle.tops_rows.proofs.Passing.{Passing}
use Rattle.tops_rows.proofs.tops_rows.Given as goal

abbrev pub invariant-loop-i : goal.invariant-loop-i
invariant-loop-i l = Passing l.n l.i l.initial.work l.work
