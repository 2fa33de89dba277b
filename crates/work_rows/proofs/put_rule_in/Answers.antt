-- The row of the rule is written, and read back it is the rule (`stored`). Assumes nothing.
use Rattle.work_rows.proofs.Rows.{stored}
use native.Mathlib.Omega.{arith}
use Rattle.work_rows.proofs.put_rule_in.Goals as goal

pub returns : goal.returns
returns c = let a = c.args in
    let row = c.from-row in
    stored a.work.now c.write.new.work a.r a.offset a.rule row.result row.ensures c.requires (omega (arith, row.type_inv)) c.write.ensures
