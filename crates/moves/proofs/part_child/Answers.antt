-- The row on that side, else the hole. Assumes nothing.
use mathlib.Core.Path.{refl, sym, ap, ◌∙◌}
use native.Mathlib.Omega.{arith}
use Rattle.forest.specs.Place.{row_of_part}
use Rattle.forest.specs.Walk.{cells_in}
use Rattle.model.specs.Model.{enter, inward}
use Rattle.facts.specs.Facts.{facts_in}
use Rattle.side.specs.Side.{side_of}
use Rattle.move_parts.specs.Change.{entry_side, Able, AbleChild}
use Rattle.move_parts.proofs.Held.{held-less}
use Rattle.move_parts.proofs.Outcomes.{decided-is, row-decided, enter-empty, enter-some, else-some, else-none}
use Rattle.moves.proofs.part_child.Goals as goal

pub inward-requires : goal.inward-requires
inward-requires c = held-less c.requires.0 _ (omega arith)

pub returns-then-is_empty_at : goal.returns-then-is_empty_at
returns-then-is_empty_at c = let a = c.args in let F = facts_in a.work.now in let d = side_of a.side in let s = a.cursor.now in let cs = cells_in s a.k in
    decided-is refl (sym (else-none (inward F cs) (enter-empty F d (row_of_part d) a.arm cs (sym c.is_empty_at.ensures ∙ c.if-is_empty_at.true)))) (c.inward.ensures d)

pub returns : goal.returns
unfolding entry_side Able AbleChild
returns c = let a = c.args in let F = facts_in a.work.now in let d = side_of a.side in let s = a.cursor.now in let cs = cells_in s a.k in
    let is = enter-some F d (row_of_part d) a.arm cs (sym c.is_empty_at.ensures ∙ c.if-is_empty_at.false) in
    decided-is c.row.ensures (ap (λ v. enter F d v a.arm cs) c.part_row.ensures ∙ is ∙ sym (else-some (inward F cs) is))
    (row-decided a.k c.part_row.result a.arm (λ o z. z) (c.requires.0.rows.represents a.arm c.requires.1))
