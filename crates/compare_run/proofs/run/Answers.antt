-- The invariant: the answer is that of what has been compared and what is left (`Going`). The measure: the turns to come. Assumes nothing.
use native.Mathlib.Omega.{arith}
use Rattle.compare_run.proofs.Runs.{going_start, going-turnable, going_more, going_less, going_end}
use Rattle.compare_run.proofs.run.Goals as goal

pub loop-work-init : goal.loop-work-init
loop-work-init c = going_start _ c.requires

pub turn-at-requires : goal.turn-at-requires
turn-at-requires c = going-turnable c.loop-work.invariant (c.unfinished.ensures.0 c.loop-work-test.true).0

pub loop-work-smaller : goal.loop-work-smaller
loop-work-smaller c = going_less c.loop-work.invariant (c.unfinished.ensures.0 c.loop-work-test.true) (omega arith) c.turn-at.ensures

pub loop-work-preserved : goal.loop-work-preserved
loop-work-preserved c = going_more c.loop-work.invariant (c.unfinished.ensures.0 c.loop-work-test.true) (omega arith) c.turn-at.ensures

pub shape_of-work : goal.shape_of-work
shape_of-work c = c.loop-work.invariant.within.same_length

pub returns : goal.returns
returns c = going_end c.loop-work.invariant c.answer.ensures (c.unfinished.ensures.1 c.loop-work-test.false)
