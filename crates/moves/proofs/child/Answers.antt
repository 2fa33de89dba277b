-- Each arm of the match is a case of `child_of`. Assumes nothing.
use Prim.Native.Nat.{ℕ}
use mathlib.Core.Path.{refl, sym, ap, ◌∙◌}
use Rattle.rule.specs.declared.Rule.{Rule}
use Rattle.forest.specs.Place.{row_of_node, row_of_part}
use Rattle.forest.specs.Position.{or_else}
use Rattle.forest.specs.Walk.{cells_in}
use Rattle.forest.proofs.Sides.{picked}
use Rattle.model.specs.Model.{enter, inward, child, child_of}
use Rattle.facts.specs.Facts.{facts_in, In}
use Rattle.side.specs.Side.{side_of}
use Rattle.facts.proofs.Closes.{named-under, named-arms}
use Rattle.facts.proofs.Rules.{other-child}
use Rattle.move_parts.specs.Change.{entry_side, Able, AbleChild}
use Rattle.move_parts.proofs.Outcomes.{decided-is, decided-none, row-decided}
use Rattle.moves.proofs.child.Goals as goal

pub row-requires : goal.row-requires
row-requires c = let a = c.args in let h = c.requires in
    named-under (In a.work.now) (sym c.rule_at.ensures ∙ c.in-Node.is) (h.0.rows.names a.p h.1)

pub part_child-requires : goal.part_child-requires
part_child-requires c = let a = c.args in let h = c.requires in let P = In a.work.now in
    let both = named-arms P (sym c.rule_at.ensures ∙ c.in-Part.is) (h.0.rows.names a.p h.1) in
    (h.0, rw c.pick.ensures (picked P (side_of a.side) _ _ both.0 both.1))

pub returns-in-Node : goal.returns-in-Node
unfolding child child_of entry_side Able AbleChild
returns-in-Node c = let a = c.args in let F = facts_in a.work.now in let d = side_of a.side in let s = a.cursor.now in let cs = cells_in s a.k in
    let h = c.requires in
    let under = c.in-Node.under in
    let there = named-under (In a.work.now) (sym c.rule_at.ensures ∙ c.in-Node.is) (h.0.rows.names a.p h.1) in
    decided-is c.row.ensures (sym (ap (λ (x : Rule). child_of F d x cs) (sym c.rule_at.ensures ∙ c.in-Node.is)))
    (row-decided a.k row_of_node under (λ o z. z) (h.0.rows.represents under there))

pub returns-in-Part : goal.returns-in-Part
unfolding child child_of
returns-in-Part c = let a = c.args in let F = facts_in a.work.now in let d = side_of a.side in let s = a.cursor.now in let cs = cells_in s a.k in
    decided-is refl
    (ap (λ (v : ℕ). or_else (enter F d (row_of_part d) v cs) (inward F cs)) c.pick.ensures
    ∙ sym (ap (λ (x : Rule). child_of F d x cs) (sym c.rule_at.ensures ∙ c.in-Part.is)))
    c.part_child.ensures

pub returns-in_default : goal.returns-in_default
unfolding child
returns-in_default c = let a = c.args in let F = facts_in a.work.now in let d = side_of a.side in let s = a.cursor.now in let cs = cells_in s a.k in
    decided-none (sym (ap (λ (x : Rule). child_of F d x cs) (sym c.rule_at.ensures) ∙ other-child F d c.rule_at.result cs c.in_default.not-Node c.in_default.not-Part))
