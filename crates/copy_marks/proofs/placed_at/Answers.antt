-- The place tells the rule's place and which of its variants. Assumes nothing.
use native.Mathlib.Omega.{arith}
use Rattle.copy_marks.proofs.Marks.{placed-rule, placed-variant}
use Rattle.copy_marks.proofs.placed_at.Goals as goal

pub overflow_mul-result : goal.overflow_mul-result
overflow_mul-result c = let l = placed-rule c.requires.0 c.requires.1 in omega (arith, l, c.order_at-r.ensures, c.requires.0.few)

pub overflow_add-result : goal.overflow_add-result
overflow_add-result c = let l = placed-rule c.requires.0 c.requires.1 in omega (arith, l, c.order_at-r.ensures, c.requires.0.few)

pub returns : goal.returns
returns c = placed-variant c.requires.0 c.requires.1 c.order_at-r.ensures
