-- Past one row more, where the rows before it cover the labels so far: by cases on the row. Assumes nothing.
use Rattle.std.proofs.Common.{sym, ◌∙◌, arith}
use Rattle.label_rows.proofs.Rows.{valid-bounded}
use Rattle.label_rows.proofs.Steps.{extended_row, extended-gap, extended-overlap, extended_fits}
use Rattle.label_rows.proofs.extend.Goals as goal

pub returns-then-invalid : goal.returns-then-invalid
returns-then-invalid c = sym (extended_row _ _ _ (sym c.invalid-invalid.ensures ∙ c.if-invalid.true))

pub returns-then-gap : goal.returns-then-gap
returns-then-gap c = sym (extended-gap _ _ _ (sym c.invalid-invalid.ensures ∙ c.if-invalid.false) c.if-gap.true)

pub returns-then-overlap : goal.returns-then-overlap
returns-then-overlap c = sym (extended-overlap _ _ _ (sym c.invalid-invalid.ensures ∙ c.if-invalid.false) c.if-overlap.true c.if-gap.false)

pub overflow_add-result : goal.overflow_add-result
overflow_add-result c = let b = valid-bounded c.args.row (sym c.invalid-invalid.ensures ∙ c.if-invalid.false) in
    record { fits = omega arith }

pub returns : goal.returns
returns c = sym (extended_fits _ _ _ (sym c.invalid-invalid.ensures ∙ c.if-invalid.false) c.if-gap.false c.if-overlap.false)
