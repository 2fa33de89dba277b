-- The plan's rules are loaded, measured and cleared away, on both answers; or it is refused. Assumes nothing.
use Rattle.forest.specs.Outcome.{work_words}
use Rattle.count_passes.proofs.Work.{held}
use Rattle.measure.proofs.Outcome.{countable, refused, finished}
use native.Mathlib.Omega.{arith}
use Rattle.refusal.proofs.Passed.{handed-on}
use Rattle.measure.proofs.measure.Goals as goal

pub answer-answer-requires : goal.answer-answer-requires
answer-answer-requires c = countable (held c.load_plan.ensures c.in_ok-n.was)

-- by computation, for n rules and for none
pub clear_work-requires : goal.clear_work-requires
unfolding work_words
clear_work-requires c = let h = held c.load_plan.ensures c.in_ok-n.was in
    let same = c.answer-answer.ensures.within.same_length in omega (arith, h.words)

pub returns : goal.returns
returns c = finished c.load_plan.ensures c.in_ok-n.was c.answer-answer.ensures c.clear_work.ensures

pub returns-in_err-n : goal.returns-in_err-n
returns-in_err-n c = rw (handed-on c.from_residual.result c.from_residual.ensures.1) (refused c.load_plan.ensures c.in_err-n.was)
