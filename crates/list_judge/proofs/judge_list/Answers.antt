-- What the plan is turned down for comes first, whatever the list is; then what the list is. Assumes nothing.
use mathlib.Core.Path.{sym, ◌∙◌}
use Rattle.refusal.proofs.Passed.{handed-on}
use Rattle.label_rows.specs.Coverage.{coverage}
use Rattle.list_judge.specs.Listed.{list_judged}
use Rattle.list_judge.proofs.Refused.{refused-first}
use Rattle.list_judge.proofs.judge_list.Goals as goal

pub returns-in_err-plan : goal.returns-in_err-plan
returns-in_err-plan c = handed-on c.from_residual.result c.from_residual.ensures.1 ∙ rw c.in_err-plan.was (refused-first (coverage c.args.rows.now) c.in_err-plan.field-0.0)

pub returns-in_err-check : goal.returns-in_err-check
unfolding list_judged
returns-in_err-check c =
    handed-on c.from_residual-in_err-check.result c.from_residual-in_err-check.ensures.1 ∙ rw (c.in_ok-plan.was, sym c.in_err-check.ensures)

pub returns : goal.returns
unfolding list_judged
returns c = rw (c.in_ok-plan.was, sym c.in_ok-check.ensures)
