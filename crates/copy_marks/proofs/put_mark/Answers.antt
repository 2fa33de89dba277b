-- The word at the place of the mark is written. Assumes nothing.
use native.Mathlib.Omega.{arith}
use Rattle.copy_marks.proofs.Marks.{mark-put}
use Rattle.copy_marks.proofs.put_mark.Goals as goal

pub returns : goal.returns
returns c = mark-put _ _ _ _ c.write16.ensures (omega arith)
