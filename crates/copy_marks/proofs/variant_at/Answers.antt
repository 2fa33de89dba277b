-- The name tells the rule and which of its variants. Assumes nothing.
use native.Mathlib.Omega.{arith}
use Rattle.copy_marks.specs.Marks.{variant_in}
use Rattle.copy_marks.proofs.Marks.{markable-readable}
use Rattle.copy_marks.proofs.variant_at.Goals as goal

pub variant_at-requires : goal.variant_at-requires
variant_at-requires c = (markable-readable c.requires.0 c.requires.1, omega arith)

pub returns : goal.returns
unfolding variant_in
returns c = c.variant_at.ensures
