-- The class is that of the row found, once nothing is refused. Assumes nothing.
use Rattle.std.proofs.Common.{sym, ap, ◌∙◌}
use Rattle.std.specs.Prelude.{Result, Ok}
use Rattle.refusal.specs.declared.Refusal.{Refusal}
use Rattle.refusal.proofs.Passed.{handed-on}
use Rattle.label_rows.specs.declared.LabelRow.{LabelRow}
use Rattle.label_rows.specs.Class.{label_judged}
use Rattle.label_rows.proofs.Labels.{label-whole, classed-whole, classed-refused}
use Rattle.label_rows.proofs.class_of.Goals as goal

pub returns-in_err-check : goal.returns-in_err-check
unfolding label_judged
returns-in_err-check c =
    handed-on c.from_residual.result c.from_residual.ensures.1
    ∙ sym (classed-refused c.args.rows.now c.args.label c.in_err-check.field-0.0
    (ap (λ (z : Result Unit Refusal). label_judged z c.args.label) (sym c.in_err-check.ensures)))

pub returns-in_err-judge_label : goal.returns-in_err-judge_label
returns-in_err-judge_label c =
    handed-on c.from_residual-in_err-judge_label.result c.from_residual-in_err-judge_label.ensures.1
    ∙ sym (classed-refused c.args.rows.now c.args.label c.in_err-judge_label.field-0.0
    (ap (λ (z : Result Unit Refusal). label_judged z c.args.label) (sym c.in_ok-check.ensures) ∙ sym c.in_err-judge_label.ensures))

pub find-requires : goal.find-requires
find-requires c =
    label-whole _ c.args.label (ap (λ (z : Result Unit Refusal). label_judged z c.args.label) (sym c.in_ok-check.ensures) ∙ sym c.in_ok-judge_label.ensures)

pub returns : goal.returns
returns c =
    ap (λ (z : LabelRow). Ok z.class) c.find.ensures ∙ sym (classed-whole c.args.rows.now c.args.label
    (ap (λ (z : Result Unit Refusal). label_judged z c.args.label) (sym c.in_ok-check.ensures) ∙ sym c.in_ok-judge_label.ensures))
