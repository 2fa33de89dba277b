-- The row of the record's rule is written, and read back it is the rule (`stored`); its words tell what the rule names. Assumes nothing.
use mathlib.Core.Path.{◌∙◌}
use native.Mathlib.Omega.{arith}
use Rattle.work_rows.proofs.Rows.{stored, row_below}
use Rattle.work_rows.proofs.put_record.Goals as goal

pub returns : goal.returns
returns c f x means = let a = c.args in
    let row = c.of_record-row in
    let fits = c.requires in (
      stored a.work.now c.write.new.work a.r 0 x row.result (row.ensures f x means) (omega (arith, fits)) (omega (arith, row.type_inv)) c.write.ensures,
      c.names_below.ensures ∙ rw (row.ensures f x means) (row_below x a.r),
    )
