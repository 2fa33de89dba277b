-- Each return is the answer of its case: of 1 and 2 by what stands up the spine, of 3 to 5, where nothing does, by the row.
-- Assumes nothing.
use Prim.Native.Nat.{ℕ, ◌≤◌}
use mathlib.Core.Path.{◌≡◌, refl, sym, ap, subst, ◌∙◌}
use mathlib.Core.List.{List}
use Rattle.std.specs.Prelude.{None}
use native.Mathlib.Omega.{arith}
use Rattle.forest.specs.Place.{Side}
use Rattle.forest.specs.Sides.{other}
use Rattle.forest.specs.Walk.{cells_in}
use Rattle.model.specs.Model.{Node, pop_run, under, beside_top, beside, inward}
use Rattle.model.specs.Neighbour.{up, across, row_end}
use Rattle.model.proofs.Stages.{case-across, case-hole, case-off}
use Rattle.facts.specs.Facts.{facts_in}
use Rattle.side.specs.Side.{side_of}
use Rattle.move_parts.specs.declared.Change.{Change}
use Rattle.move_parts.specs.Change.{letter_side, change_node, Able, AbleSibling, keep_of}
use Rattle.move_parts.proofs.Held.{held-less}
use Rattle.move_parts.proofs.Turns.{turning-beside}
use Rattle.move_parts.proofs.Outcomes.{decided, decided-is, decided-none, decided-more, down-beside}
use Rattle.moves.specs.declared.UpArm.{UpArm}
use Rattle.moves.specs.Arms.{ArmUp}
use Rattle.moves.proofs.Arms.{case-tree, case-empty}
use Rattle.moves.proofs.sibling.Goals as goal

-- where nothing stands up the spine: moving up fails, and j of the k cells are the row's end on that side
record InRow (t s : List ℕ) (k : ℕ) (d : Side) (x : Node) (j : ℕ) : Type 0 where
  off : up (facts_in t) x ≡ None
  end : row_end d x ≡ cells_in s j
  few : j ≤ k

-- .. which `under` and `pop_run` give
in-row : (t s : List ℕ) (k : ℕ) (d : Side) (p : ℕ) {x : UpArm} {u j : ℕ} → x ≡ UpArm.Off → ArmUp t s k d (p, cells_in s k) x
    → (u ≤ k) × (cells_in s u ≡ under (cells_in s k)) → (j ≤ u) × (cells_in s j ≡ pop_run d (cells_in s u)) → InRow t s k d (p, cells_in s k) j
unfolding row_end ArmUp
in-row t s k d p is off below popped = record { off = subst (ArmUp t s k d (p, cells_in s k)) is off; end = ap (pop_run d) (sym below.1) ∙ sym popped.1; few = omega arith }

pub returns-in-HasTree : goal.returns-in-HasTree
unfolding ArmUp
returns-in-HasTree c = let a = c.args in
    let t = a.work.now in
    let s = a.cursor.now in
    let d = side_of a.side in
    let one = subst (ArmUp t s a.k d (a.p, cells_in s a.k)) c.in-HasTree.is (c.up_arm.ensures a.p) in
    decided-is refl (case-tree (facts_in t) d _ one.0) one.1

pub returns-in-IsEmpty : goal.returns-in-IsEmpty
unfolding ArmUp
returns-in-IsEmpty c = let a = c.args in
    let t = a.work.now in
    let s = a.cursor.now in
    let d = side_of a.side in
    let two = subst (ArmUp t s a.k d (a.p, cells_in s a.k)) c.in-IsEmpty.is (c.up_arm.ensures a.p) in
    decided-none (case-empty (facts_in t) d _ two.0 two.1)

pub above_top-requires : goal.above_top-requires
above_top-requires c = let a = c.args in
    let t = a.work.now in
    let s = a.cursor.now in
    let d = side_of a.side in
    let row = in-row t s a.k d a.p c.in-Off.is (c.up_arm.ensures a.p) c.under.ensures c.pop_run-j.ensures in
    held-less c.requires _ row.few

pub returns-in-Some : goal.returns-in-Some
unfolding across beside letter_side change_node Able AbleSibling keep_of beside_top row_end
returns-in-Some c = let a = c.args in
    let t = a.work.now in
    let s = a.cursor.now in
    let d = side_of a.side in
    let F = facts_in t in
    let row = in-row t s a.k d a.p c.in-Off.is (c.up_arm.ensures a.p) c.under.ensures c.pop_run-j.ensures in
    let turn = c.above_top.ensures.turns _ c.in-Some.is in
    decided (Change.Tree c.pop_run-j.result c.in-Some.above)
    (sym (case-across F d _ row.off (ap (beside_top F d) row.end ∙ turning-beside turn))) turn row.few

pub inward-requires : goal.inward-requires
inward-requires c = let a = c.args in
    let t = a.work.now in
    let s = a.cursor.now in
    let d = side_of a.side in
    let row = in-row t s a.k d a.p c.in-Off.is (c.up_arm.ensures a.p) c.under.ensures c.pop_run-j.ensures in
    held-less c.requires _ (omega (arith, row.few, c.tail.ensures.0))

pub returns-then-ends_at_hole : goal.returns-then-ends_at_hole
unfolding across beside pop_run row_end
returns-then-ends_at_hole c = let a = c.args in
    let t = a.work.now in
    let s = a.cursor.now in
    let d = side_of a.side in
    let F = facts_in t in
    let row = in-row t s a.k d a.p c.in-Off.is (c.up_arm.ensures a.p) c.under.ensures c.pop_run-j.ensures in
    let four = case-hole F d _ row.off (ap (beside_top F d) row.end ∙ c.above_top.ensures.off c.in_default.is) row.end (sym c.ends_at_hole.ensures ∙ c.if-ends_at_hole.true) in
    let down = decided-is refl (ap (inward F) (c.tail.ensures.1 s) ∙ sym four) (c.inward.ensures (other d)) in
    down-beside d _ (decided-more _ (omega (arith, row.few, c.tail.ensures.0)) down)

pub returns : goal.returns
unfolding across beside pop_run row_end
returns c = let a = c.args in
    let t = a.work.now in
    let s = a.cursor.now in
    let d = side_of a.side in
    let F = facts_in t in
    let row = in-row t s a.k d a.p c.in-Off.is (c.up_arm.ensures a.p) c.under.ensures c.pop_run-j.ensures in
    decided-none (sym (case-off F d _ row.off (ap (beside_top F d) row.end ∙ c.above_top.ensures.off c.in_default.is) row.end
    (sym c.ends_at_hole.ensures ∙ c.if-ends_at_hole.false)))
