-- The part beside in the spine, else what the spine continues in. Assumes nothing.
use Prim.Native.Nat.{ℕ}
use mathlib.Core.Path.{refl, sym, ap, ◌∙◌}
use Rattle.std.specs.Prelude.{option_map}
use native.Mathlib.Omega.{arith}
use Rattle.forest.specs.Place.{Cells, Side}
use Rattle.forest.specs.Walk.{cells_in}
use Rattle.model.specs.Model.{beside_top, opened, continuing}
use Rattle.side.specs.Side.{side_of}
use Rattle.facts.specs.Facts.{facts_in}
use Rattle.move_parts.specs.declared.Change.{Change}
use Rattle.move_parts.specs.Change.{spine_side, change_node, Able, AbleChild, keep_of}
use Rattle.move_parts.proofs.Held.{held-less}
use Rattle.move_parts.proofs.Turns.{turning-beside}
use Rattle.move_parts.proofs.Outcomes.{decided, decided-is, inward-part, inward-off}
use Rattle.move_parts.proofs.inward.Goals as goal

pub above_top-requires : goal.above_top-requires
above_top-requires c = held-less c.requires _ c.pop_run-j.ensures.0

pub returns-in-Some : goal.returns-in-Some
unfolding side_of change_node spine_side Able AbleChild keep_of
returns-in-Some c d = let a = c.args in let F = facts_in a.work.now in let s = a.cursor.now in let cs = cells_in s a.k in
    let h = c.above_top.ensures.turns _ c.in-Some.is in
    decided (Change.Turn c.pop_run-j.result c.in-Some.above)
    (sym (inward-part F cs (ap (beside_top F Side.right) (sym c.pop_run-j.ensures.1) ∙ turning-beside h))) h c.pop_run-j.ensures.0

pub continued-requires : goal.continued-requires
continued-requires c = held-less c.requires _ (omega (arith, c.pop_run-j.ensures.0))

pub returns : goal.returns
unfolding side_of
returns c d = let a = c.args in let F = facts_in a.work.now in let s = a.cursor.now in let cs = cells_in s a.k in
    decided-is refl
    (ap (λ (l : Cells). option_map (λ (v : ℕ). opened F v cs) (continuing F l)) c.pop_run-j.ensures.1
    ∙ sym (inward-off F cs (ap (beside_top F Side.right) (sym c.pop_run-j.ensures.1) ∙ c.above_top.ensures.off c.in_default.is)))
    (c.continued.ensures d)
