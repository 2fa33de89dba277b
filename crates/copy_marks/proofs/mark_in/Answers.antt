-- The word at the place of the mark is read. Assumes nothing.
use native.Mathlib.Omega.{arith}
use Rattle.copy_marks.proofs.Marks.{mark-read}
use Rattle.copy_marks.proofs.mark_in.Goals as goal

pub returns : goal.returns
returns c = mark-read _ _ _ c.read16.ensures (omega arith)
