-- The invariant: what is written and the text of the tasks make the whole text (`Running`). The measure: the tasks to come. Assumes nothing.
use Rattle.spread_stack.proofs.Runs.{running-start, liftable, turnable, running_more, running-less, running-end}
use native.Mathlib.Omega.{arith}
use Rattle.spread_stack.proofs.run.Goals as goal

pub overflow_mul-from : goal.overflow_mul-from
overflow_mul-from c = omega arith

pub lift-start-requires : goal.lift-start-requires
lift-start-requires c = liftable c.requires

pub loop-k-init : goal.loop-k-init
loop-k-init c = running-start c.requires c.lift-start.ensures

pub overflow_sub-k : goal.overflow_sub-k
overflow_sub-k c = omega arith

pub turn-state-requires : goal.turn-state-requires
turn-state-requires c = turnable c.requires c.loop-k.invariant c.loop-k-test.true

pub loop-k-smaller : goal.loop-k-smaller
loop-k-smaller c = running-less c.requires c.loop-k.invariant c.loop-k-test.true c.turn-state.ensures

pub loop-k-preserved : goal.loop-k-preserved
loop-k-preserved c = running_more c.requires c.loop-k.invariant c.loop-k-test.true c.turn-state.ensures

pub shape_of-work : goal.shape_of-work
shape_of-work c = c.loop-k.invariant.within.same_length

pub shape_of-out : goal.shape_of-out
shape_of-out c = c.loop-k.invariant.long

pub returns : goal.returns
returns c = running-end c.loop-k.invariant c.loop-k-test.false
