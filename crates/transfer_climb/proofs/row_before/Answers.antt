-- Only an R has trees before it: those of the L, and one more. Assumes nothing.
use Rattle.transfer_climb.proofs.Rows.{before-none, before-many, before-one}
use Rattle.transfer_climb.proofs.row_before.Goals as goal

pub returns-then-number-ne-RIGHT_ROW : goal.returns-then-number-ne-RIGHT_ROW
returns-then-number-ne-RIGHT_ROW c = before-none _ _ c.if-number-ne-RIGHT_ROW.true

pub returns-then-left : goal.returns-then-left
returns-then-left c = before-many _ _ c.if-number-ne-RIGHT_ROW.false c.left_tops-left.ensures c.if-left.true

pub returns : goal.returns
returns c = before-one _ _ c.if-number-ne-RIGHT_ROW.false c.left_tops-left.ensures c.if-left.false
