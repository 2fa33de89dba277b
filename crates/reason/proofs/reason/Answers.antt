-- Refused by what is judged, or answered past 8, and then the work is cleared whatever came of it. Assumes nothing.
use native.Mathlib.Omega.{arith}
use mathlib.Core.Path.{sym, ◌∙◌}
use Rattle.forest.specs.Outcome.{work_words}
use Rattle.walk_lent.proofs.Judged.{judged}
use Rattle.reason.proofs.Outcome.{turned_down_lem, finished}
use Rattle.refusal.proofs.Passed.{handed-on}
use Rattle.reason.proofs.reason.Goals as goal

pub of_byte-answer-requires : goal.of_byte-answer-requires
of_byte-answer-requires c = judged _ _ _ (sym c.judge.ensures ∙ c.in_ok-accepted.was)

-- by computation, for n rules and for none
pub clear_work-requires : goal.clear_work-requires
unfolding work_words
clear_work-requires c = let lent = judged _ _ _ (sym c.judge.ensures ∙ c.in_ok-accepted.was) in
    let room = lent.words in
    let same = c.of_byte-answer.ensures.1.same_length in
    omega arith

pub returns : goal.returns
returns c = let answer = c.of_byte-answer.ensures in
    finished _ _ _ _ (sym c.judge.ensures ∙ c.in_ok-accepted.was) answer.0 answer.1 c.clear_work.ensures

pub returns-in_err-accepted : goal.returns-in_err-accepted
returns-in_err-accepted c = rw (handed-on c.from_residual.result c.from_residual.ensures.1) (turned_down_lem _ _ _ _ (sym c.judge.ensures ∙ c.in_err-accepted.was))
