-- The plan is too long, or what check comes to. Assumes nothing.
use native.Mathlib.Omega.{arith}
use mathlib.Core.Path.{sym, ◌∙◌}
use Rattle.decimal.proofs.Puts.{put_as}
use Rattle.stroll_output.proofs.Printed.{put-printed}
use Rattle.stroll_output.proofs.Strolls.{plan-too-long, plan-checked, plan-refused}
use Rattle.stroll_output.proofs.stroll.Goals as goal

pub returns-then-plan-gt-MOST_PLAN : goal.returns-then-plan-gt-MOST_PLAN
returns-then-plan-gt-MOST_PLAN c = let a = c.args in
    put-printed (put_as (sym (plan-too-long a.plan.now a.letters.now c.if-plan-gt-MOST_PLAN.true)) c.put_refusal.ensures)

pub stroll_letters-requires : goal.stroll_letters-requires
stroll_letters-requires c = (record { n = _; start = _; accepted = sym c.check_up_to.ensures ∙ c.in-Ok.is }, omega arith)

pub returns-in-Ok : goal.returns-in-Ok
returns-in-Ok c = let a = c.args in
    put-printed (put_as (sym (plan-checked a.plan.now a.letters.now c.if-plan-gt-MOST_PLAN.false)) c.stroll_letters.ensures)

pub returns-in-Err : goal.returns-in-Err
returns-in-Err c = let a = c.args in
    put-printed (put_as (sym (plan-refused a.plan.now a.letters.now c.if-plan-gt-MOST_PLAN.false _ (sym c.check_up_to.ensures ∙ c.in-Err.is))) c.put_refusal-in-Err.ensures)
