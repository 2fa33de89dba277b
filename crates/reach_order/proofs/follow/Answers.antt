-- The loop's invariant: what has been seen is reached, and what the rules taken name has been seen (`Following`). Assumes nothing.
use native.Mathlib.Omega.{arith}
use Rattle.words.proofs.Within.{within_both}
use Rattle.reach_order.proofs.Placing.{ready-kept}
use Rattle.reach_order.proofs.Queues.{read-lists, follow-room, taken-below, follow-finds, follow-more, follow-ends}
use Rattle.reach_order.proofs.follow.Goals as goal

pub overflow_mul-taken : goal.overflow_mul-taken
overflow_mul-taken c = let v = c.loop-taken.invariant in omega (arith, v.0.few, follow-room v.0 v.1)

pub overflow_add-rules : goal.overflow_add-rules
overflow_add-rules c = let v = c.loop-taken.invariant in omega (arith, v.0.few, follow-room v.0 v.1)

pub read16-r-requires : goal.read16-r-requires
read16-r-requires c = let v = c.loop-taken.invariant in omega (arith, v.0.fits, follow-room v.0 v.1)

pub returns-then-r-i : goal.returns-then-r-i
returns-then-r-i c = let v = c.loop-taken.invariant in (follow-finds v.0 v.1 c.loop-taken-test.true c.read16-r.ensures c.if-r-i.true, v.2)

pub names_at-requires : goal.names_at-requires
names_at-requires c = let v = c.loop-taken.invariant in taken-below v.0 v.1 c.loop-taken-test.true c.read16-r.ensures

pub enqueue_all-m-requires : goal.enqueue_all-m-requires
enqueue_all-m-requires c = let v = c.loop-taken.invariant in read-lists v.0 (taken-below v.0 v.1 c.loop-taken-test.true c.read16-r.ensures) c.names_at.ensures v.1.counted

pub loop-taken-smaller : goal.loop-taken-smaller
loop-taken-smaller c = let v = c.loop-taken.invariant in omega (arith, follow-room v.0 v.1)

pub loop-taken-preserved : goal.loop-taken-preserved
loop-taken-preserved c = let v = c.loop-taken.invariant in let h = c.enqueue_all-m.ensures in (ready-kept v.0 h.grown.within, follow-more v.0 v.1 c.loop-taken-test.true c.read16-r.ensures c.if-r-i.false c.names_at.ensures h, within_both v.2 h.grown.within)

pub returns : goal.returns
returns c = let v = c.loop-taken.invariant in (follow-ends v.0 v.1 c.loop-taken-test.false, v.2)
