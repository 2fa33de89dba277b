-- With a label or without, the words are those of the rule that the record means. Assumes nothing.
use mathlib.Core.Path.{◌∙◌}
use native.Mathlib.Omega.{arith}
use Rattle.work_rows.proofs.Rows.{labelled-row, unlabelled-row}
use Rattle.work_rows.proofs.Row.of_record.Goals as goal

pub returns-then-kind : goal.returns-then-kind
returns-then-kind c f x means = let a = c.args in
    c.with.ensures ∙ rw c.label.ensures (labelled-row a.w (omega arith) f x means c.if-kind.true)

pub returns : goal.returns
returns c f x means = let a = c.args in
    c.with-2.ensures ∙ unlabelled-row a.w (omega arith) f x means c.if-kind.false
