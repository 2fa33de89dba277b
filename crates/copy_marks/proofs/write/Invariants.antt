-- The invariant: the marked variants at the places below i are written (`Writing`). Assumes nothing.
use Rattle.copy_marks.proofs.Records.{Writing}
use Rattle.copy_marks.proofs.write.Given as goal

abbrev pub invariant-loop-i : goal.invariant-loop-i
invariant-loop-i l = Writing l.n l.i l.m l.initial.work l.initial.out l.work l.out
