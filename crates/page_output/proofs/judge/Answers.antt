-- The tests in turn. Assumes nothing.
use mathlib.Core.Path.{sym, ◌∙◌}
use Rattle.page_output.specs.Pages.{check_judged}
use Rattle.page_output.proofs.Judging.{plan-long, plan-read}
use Rattle.refusal.proofs.Passed.{handed-on}
use Rattle.page_output.proofs.judge.Goals as goal

pub returns-then-plan-gt-MOST_PLAN : goal.returns-then-plan-gt-MOST_PLAN
returns-then-plan-gt-MOST_PLAN c = let entry = c in
    plan-long entry.args.plan.now entry.args.log.now c.if-plan-gt-MOST_PLAN.true

pub returns : goal.returns
unfolding check_judged
returns c = let past-check = c in
    let entry = past-check in
    c.judge_log.ensures
    ∙ plan-read entry.args.plan.now entry.args.log.now past-check.if-plan-gt-MOST_PLAN.false
    (sym c.in_ok-check_up_to.was ∙ past-check.check_up_to.ensures)

pub returns-in_err-check_up_to : goal.returns-in_err-check_up_to
unfolding check_judged
returns-in_err-check_up_to c = let past-check = c in
    let entry = past-check in
    rw (handed-on c.from_residual.result c.from_residual.ensures.1) (plan-read entry.args.plan.now entry.args.log.now past-check.if-plan-gt-MOST_PLAN.false
    (sym c.in_err-check_up_to.was ∙ past-check.check_up_to.ensures))
