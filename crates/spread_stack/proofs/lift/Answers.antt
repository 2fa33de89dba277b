-- The word over the others is read, if there is one. Assumes nothing.
use native.Mathlib.Omega.{arith}
use Rattle.spread_stack.proofs.Stacks.{lifted-none, lifted-some}
use Rattle.spread_stack.proofs.lift.Goals as goal

pub returns-then-k-eq0 : goal.returns-then-k-eq0
returns-then-k-eq0 c = lifted-none _ _ _ _ c.if-k-eq0.true

pub overflow_sub-k : goal.overflow_sub-k
overflow_sub-k c = omega arith

pub overflow_mul-k : goal.overflow_mul-k
overflow_mul-k c = omega arith

pub overflow_add-from : goal.overflow_add-from
overflow_add-from c = omega arith

pub read16-requires : goal.read16-requires
read16-requires c = omega arith

pub returns : goal.returns
returns c = lifted-some _ _ _ _ c.if-k-eq0.false c.read16.ensures
