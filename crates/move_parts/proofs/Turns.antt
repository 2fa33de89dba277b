-- The pieces of a turn on the cells of a cursor, one law for each way that the code takes: a step onto the cells, the rule
-- that they stand at, a run one step shorter, and the run back.
-- Assumes nothing.
use Prim.Native.Nat.{ℕ, suc, ◌+◌, ◌-◌, ◌≤◌, ◌<◌}
use native.Mathlib.Omega.{arith}
use mathlib.Core.Path.{◌≡◌, sym, ap, ◌∙◌}
use mathlib.Core.List.{List, ◌∷◌}
use Rattle.std.specs.Prelude.{None, Some as some'}
use borrow.Author.Tests.{eq-eqb, ne_eqb, le-leb, lt-leb}
use Rattle.std.specs.Prelude.{Some}
use Rattle.forest.specs.Place.{Cell, Cells, Side, cell_spine, cell_run, step}
use Rattle.forest.specs.Sides.{other}
use Rattle.forest.specs.Walk.{cell_at, cells_in}
use Rattle.model.specs.Facts.{Facts}
use Rattle.model.specs.Model.{Node, outer, standing, shrunk, turned, beside_top}
use Rattle.model.proofs.Cells.{top_kind, step-begins}
use Rattle.facts.specs.Facts.{facts_in}
use Rattle.place_cells.specs.Cells.{cell, run_cell}
use Rattle.place_cells.specs.Changes.{add}
use Rattle.move_parts.specs.Moves.{above_top, Turning}
use Rattle.move_parts.specs.Change.{turned_at}
use Rattle.place_cells.proofs.Stack.{cells-none, cells-top, add-some, add-run, apart-back, step-kind, run-begins, above_first}

-- the rule that cells 1 to k stand at
module _ (s : List ℕ) (k : ℕ) (F : Facts) where
  pub stands-none : k ≡ 0 → standing F (cells_in s k) ≡ 0
  unfolding standing
  stands-none e = rw (cells-none s k e)

  pub stands-spine : 0 < k → (cell_at s k).0 ≡ cell_spine → standing F (cells_in s k) ≡ outer F (cell_at s k).1
  unfolding standing
  stands-spine h e = rw (cells-top s k h, eq-eqb _ _ e)

  pub stands-else : 0 < k → ((cell_at s k).0 ≡ cell_spine → ⊥) → standing F (cells_in s k) ≡ (cell_at s k).2
  unfolding standing
  stands-else h e = rw (cells-top s k h, ne_eqb _ _ e)

-- the run on top is one step shorter, gone if it had one step, and a step goes on it
module _ (t s : List ℕ) (k : ℕ) (d : Side) (some : 0 < k) where
  pub steps-gone : (above to : ℕ) → above ≡ above_top t s k d
      → (facts_in t).depth (other d) (cell_at s k).1 ≤ (facts_in t).depth (other d) (cell_at s k).2 + 1
      → step d (cell_at s k).1 to (cells_in s (k - 1)) ≡ step d above to (shrunk (facts_in t) (other d) (cells_in s k))
  unfolding shrunk
  steps-gone above to e h =
      let F = facts_in t in let c = cell_at s k in
      let first : above ≡ c.1 = e ∙ above_first F (other d) c.1 c.2 h in
      let gone : F.depth (other d) c.1 ≤ suc (F.depth (other d) c.2) = omega arith in
      sym (rw (first, cells-top s k some, le-leb _ _ gone))

  pub steps-short : (above to : ℕ) → above ≡ above_top t s k d → (cell_at s k).0 ≡ cell_run (other d)
      → (facts_in t).depth (other d) (cell_at s k).2 + 1 < (facts_in t).depth (other d) (cell_at s k).1
      → add (Some (cell (cell_run d, above, to, 0))) (add (Some (cell ((cell_at s k).0, (cell_at s k).1, above, (cell_at s k).3))) (cells_in s (k - 1)))
      ≡ step d above to (shrunk (facts_in t) (other d) (cells_in s k))
  unfolding shrunk top_kind
  steps-short above to q e h =
      let F = facts_in t in let c = cell_at s k in
      let shorter : Cell = (c.0, c.1, above, c.3) in
      let kept : suc (F.depth (other d) c.2) < F.depth (other d) c.1 = omega arith in
      ap (add (Some (cell (cell_run d, above, to, 0)))) (add-some (cell shorter) (cells_in s (k - 1)))
      ∙ add-run d above to (shorter ∷ cells_in s (k - 1))
      ∙ sym (step-begins d above to (shorter ∷ cells_in s (k - 1)) (rw e (apart-back d)))
      ∙ ap (step d above to) (sym (rw (cells-top s k some, lt-leb _ _ kept) (ap (λ (v : ℕ). (c.0, c.1, v, c.3) ∷ cells_in s (k - 1)) (sym q))))

  -- a run to the other side on top turns
  pub beside-turns : (cell_at s k).0 ≡ cell_run (other d)
      → beside_top (facts_in t) d (cells_in s k) ≡ some' (turned (facts_in t) d (above_top t s k d) (shrunk (facts_in t) (other d) (cells_in s k)))
  unfolding beside_top
  beside-turns e = rw (cells-top s k some, eq-eqb _ _ e)

  pub beside-other : ((cell_at s k).0 ≡ cell_run (other d) → ⊥) → beside_top (facts_in t) d (cells_in s k) ≡ None
  unfolding beside_top
  beside-other e = rw (cells-top s k some, ne_eqb _ _ e)

pub beside_none : (F : Facts) (s : List ℕ) (k : ℕ) (d : Side) → k ≡ 0 → beside_top F d (cells_in s k) ≡ None
unfolding beside_top
beside_none F s k d e = rw (cells-none s k e)

-- then the longest run back
pub turned-cells : (F : Facts) (d : Side) (v : ℕ) (cs : Cells)
    → let to = F.toward d v in
    ◌≡◌ {A = Node} (F.last (other d) to, add (run_cell F (other d) to) (step d v to cs)) (turned F d v cs)
unfolding turned
turned-cells F d v cs =
    let to = F.toward d v in
    ap (λ (l : Cells). let n : Node = (F.last (other d) to, l) in n) (run-begins F (other d) to (step d v to cs) (step-kind d v to cs))

-- a run that turns leads beside
pub turning-beside : {t s : List ℕ} {k : ℕ} {d : Side} {v : ℕ} → Turning t s k d v → beside_top (facts_in t) d (cells_in s k) ≡ some' (turned_at (facts_in t) d v (cells_in s k))
turning-beside {t} {s} {k} {d} {v} h = rw h.1 (beside-turns t s k d h.0.some h.0.kind)
