-- The loop's invariant: the first i places hold their numbers. Assumes nothing.
use native.Mathlib.Omega.{arith}
use mathlib.Core.Path.{◌≡◌}
use Rattle.work_rows.proofs.Order.{numbered-none, numbered_more, numbered-all}
use Rattle.work_rows.proofs.order_by_number.Goals as goal

pub overflow_mul-at : goal.overflow_mul-at
overflow_mul-at c = omega arith

pub loop-i-init : goal.loop-i-init
loop-i-init c = (omega arith, c.requires, numbered-none _ _)

pub overflow_mul-i : goal.overflow_mul-i
overflow_mul-i c = omega arith

pub overflow_add-at : goal.overflow_add-at
overflow_add-at c = let v = c.loop-i.invariant in let a = v.0 in omega arith

pub write16-requires : goal.write16-requires
write16-requires c = let v = c.loop-i.invariant in let a = v.0 in let room = v.1 in let long = v.2.within.same_length in omega arith

pub loop-i-preserved : goal.loop-i-preserved
loop-i-preserved c = let v = c.loop-i.invariant in (v.0, v.1, numbered_more c.loop-i-test.true (omega arith) v.1 v.2 (rw v.0 at c.write16.ensures))

pub shape_of-work : goal.shape_of-work
shape_of-work c = c.loop-i.invariant.2.within.same_length

pub returns : goal.returns
returns c = let v = c.loop-i.invariant in let e : c.loop-i.i ≡ c.args.n = omega arith in let z = rw e at v.2 in (numbered-all z, z.within)
