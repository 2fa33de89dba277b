-- Where nothing is turned down the copy is made, and else all stays. Assumes nothing.
use Rattle.std.proofs.Common.{sym, ◌∙◌, refl}
use Rattle.copy.proofs.Judged.{judged-all, judged-makeable, outcome-made, outcome-refused}
use Rattle.refusal.proofs.Passed.{handed-on}
use Rattle.copy.proofs.copy.Goals as goal

pub make-requires : goal.make-requires
make-requires c =
    let a = c.args in
    let all = judged-all a.plan.now a.rows.now a.class a.work.now a.out.now c.judge_class-judged.ensures c.judge_list-listed.ensures (c.judge_lent.ensures a.work.now a.out.now refl refl) in
    judged-makeable a.plan.now a.rows.now a.class a.work.now a.out.now c.in_ok-n.field-0.n c.in_ok-n.field-0.start (sym all ∙ c.in_ok-n.was)

pub returns : goal.returns
returns c =
    let a = c.args in
    let all = judged-all a.plan.now a.rows.now a.class a.work.now a.out.now c.judge_class-judged.ensures c.judge_list-listed.ensures (c.judge_lent.ensures a.work.now a.out.now refl refl) in
    outcome-made a.plan.now a.rows.now a.class a.work.now a.out.now (sym all ∙ c.in_ok-n.was) c.make.ensures

pub returns-in_err-n : goal.returns-in_err-n
returns-in_err-n c =
    let a = c.args in
    let all = judged-all a.plan.now a.rows.now a.class a.work.now a.out.now c.judge_class-judged.ensures c.judge_list-listed.ensures (c.judge_lent.ensures a.work.now a.out.now refl refl) in
    rw (handed-on c.from_residual.result c.from_residual.ensures.1) (outcome-refused a.plan.now a.rows.now a.class a.work.now a.out.now (sym all ∙ c.in_err-n.was))
