-- Each arm of the match is a clause of the definition. Assumes nothing.
use mathlib.Core.Path.{sym}
use borrow.Author.Tests.{eq-eqb, ne_eqb}
use Rattle.forest.specs.Place.{row_of_part}
use Rattle.model.specs.Stored.{row_under}
use Rattle.facts.proofs.Rules.{other_row}
use Rattle.place_check.proofs.row_under.Goals as goal

pub returns-then-kind-number : goal.returns-then-kind-number
unfolding row_under
returns-then-kind-number c = rw (c.in-Node.is, c.if-kind-number.true)

pub returns-then-number-eq-LEFT_ROW : goal.returns-then-number-eq-LEFT_ROW
unfolding row_under row_of_part
returns-then-number-eq-LEFT_ROW c = rw (c.in-Part.is, eq-eqb _ _ c.if-number-eq-LEFT_ROW.true)

pub returns-then-number-eq-RIGHT_ROW : goal.returns-then-number-eq-RIGHT_ROW
unfolding row_under row_of_part
returns-then-number-eq-RIGHT_ROW c = rw (c.in-Part.is, ne_eqb _ _ c.if-number-eq-LEFT_ROW.false, eq-eqb _ _ c.if-number-eq-RIGHT_ROW.true)

pub returns-else-kind-number : goal.returns-else-kind-number
unfolding row_under
returns-else-kind-number c = rw (c.in-Node.is, c.if-kind-number.false)

pub returns-else-number-eq-RIGHT_ROW : goal.returns-else-number-eq-RIGHT_ROW
unfolding row_under row_of_part
returns-else-number-eq-RIGHT_ROW c = rw (c.in-Part.is, ne_eqb _ _ c.if-number-eq-LEFT_ROW.false, ne_eqb _ _ c.if-number-eq-RIGHT_ROW.false)

pub returns-in_default : goal.returns-in_default
returns-in_default c = sym (other_row c.args.rule c.args.kind c.args.number c.in_default.not-Node c.in_default.not-Part)
