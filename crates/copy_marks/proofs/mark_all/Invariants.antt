-- The invariant: from the marks as they are, the places below i go on to the last (`Passing`). Assumes nothing.
use Rattle.copy_marks.proofs.Passing.{Passing}
use Rattle.copy_marks.proofs.mark_all.Given as goal

abbrev pub invariant-loop-i : goal.invariant-loop-i
invariant-loop-i l = Passing l.n l.i l.initial.work l.work
