-- Zeros into all marks. Assumes nothing.
use native.Mathlib.Omega.{arith}
use Rattle.copy_marks.proofs.Marks.{marks-cleared}
use Rattle.copy_marks.proofs.clear_marks.Goals as goal

pub returns : goal.returns
returns c = marks-cleared _ _ _ _ c.requires (omega arith) (omega arith) c.clear.ensures
