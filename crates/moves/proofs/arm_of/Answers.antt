-- Only a part's rule has an L or R; without a tree it is empty. Assumes nothing.
use mathlib.Core.Path.{sym, ap, ◌∙◌}
use Rattle.forest.proofs.Sides.{picked}
use Rattle.model.specs.Model.{is_part}
use Rattle.facts.specs.Facts.{facts_in, In}
use Rattle.side.specs.Side.{side_of}
use Rattle.facts.proofs.Closes.{named-arms}
use Rattle.facts.proofs.Rules.{other-part}
use Rattle.std.specs.Prelude.{Some}
use Rattle.moves.proofs.Arms.{arm-none, arm-empty, arm-tree}
use Rattle.moves.proofs.arm_of.Goals as goal

pub returns-in_default : goal.returns-in_default
returns-in_default c = let a = c.args in
    arm-none (facts_in a.work.now) (side_of a.side) _ (ap is_part (sym c.rule_at.ensures) ∙ other-part _ c.in_default.not-Part)

pub is_empty_at-requires : goal.is_empty_at-requires
is_empty_at-requires c = let a = c.args in
    let h = c.requires in
    let t = a.work.now in
    let both = named-arms (In t) (sym c.rule_at.ensures ∙ c.in-Part.is) (h.0.names a.rule h.1) in
    rw c.pick-arm.ensures (picked (In t) (side_of a.side) _ _ both.0 both.1)

pub returns-then-is_empty_at : goal.returns-then-is_empty_at
returns-then-is_empty_at c = let a = c.args in
    let its = sym c.rule_at.ensures ∙ c.in-Part.is in
    arm-empty (facts_in a.work.now) (side_of a.side) _ its c.pick-arm.ensures (sym c.is_empty_at.ensures ∙ c.if-is_empty_at.true)

pub representative_at-requires : goal.representative_at-requires
representative_at-requires c = let a = c.args in
    let h = c.requires in
    let t = a.work.now in
    let both = named-arms (In t) (sym c.rule_at.ensures ∙ c.in-Part.is) (h.0.names a.rule h.1) in
    rw c.pick-arm.ensures (picked (In t) (side_of a.side) _ _ both.0 both.1)

pub returns : goal.returns
returns c = let a = c.args in
    let its = sym c.rule_at.ensures ∙ c.in-Part.is in
    ap Some c.representative_at.ensures
    ∙ arm-tree (facts_in a.work.now) (side_of a.side) _ its c.pick-arm.ensures (sym c.is_empty_at.ensures ∙ c.if-is_empty_at.false)
