-- The walker on cells and the finger on the forest. A path of the placed forest is a path of the located forest, its place the
-- cells of the position there; so a letter on paths is the letter on positions, which is the letter on cells. Assumes nothing.
use Prim.Native.Nat.{ℕ, ◌-◌, min}
use mathlib.Core.Path.{◌≡◌, refl, sym, ap, ◌∙◌, subst}
use mathlib.Core.Bool.{Bool, true, false, cond}
use mathlib.Core.List.{[], ◌∷◌}
use Rattle.std.specs.Prelude.{Option, None, Some, option_map}
use Rattle.std.proofs.lemmas.Option.{none-some, same_Some}
use lib.ListN.{length}
use lib.Dec.{eqb}
use Rattle.forest.specs.Expression.{Expression, rule_number}
use Rattle.forest.specs.Place.{Cells, Placed, Side, cell_run, representative, step, placed_of, first_cells}
use Rattle.forest.specs.Sides.{pick}
use Rattle.forest.specs.Position.{or_else, Position, Located, cells, located_of, Named}
use Rattle.forest.specs.Letter.{Letter, is_root}
use Rattle.forest.specs.Reference.{Path, label_at, is_above, answer, moved}
use Rattle.forest.specs.Walk.{place_at, cells_of}
use Rattle.forest.specs.Good.{Sort, Good}
use Rattle.forest.proofs.Cases.{by-option}
use Rattle.forest.proofs.Steps.{moved_nowhere, answer-label}
use Rattle.forest.proofs.Finger.{answer-root, answer-child, answer-sibling, answer-parent, answer-stay, placed-label_at, placed-moved}
use Rattle.forest.proofs.Placed.{placed_as}
use Rattle.forest.proofs.Nodes.{node_at_lem}
use Rattle.forest.proofs.Search.{Distinct}
use Rattle.forest.proofs.Unique as paths
use Rattle.model.specs.Facts.{Facts}
use Rattle.model.specs.Model.{Node}
use Rattle.model.specs.Walk as model
use Rattle.model.proofs.Fit.{Fit}
use Rattle.model.proofs.Unique as places
use Rattle.model.proofs.Near.{first-cells-stay}
use Rattle.model.proofs.Walk.{move_at, moved_at, cells_at, equal_cells, moved_same}
use Rattle.model.specs.Same.{Same}

-- a position has cells
filled : Cells → Type 0
filled [] = ⊥
filled (c ∷ cs) = Unit {0}

step-filled : (s : Side) (a b : ℕ) (cs : Cells) → filled (step s a b cs)
unfolding step filled
step-filled s a b [] = tt
step-filled s a b (c ∷ cs) = go (eqb c.0 (cell_run s))
  where
    go : (t : Bool) → filled (cond t ((c.0, c.1, b, c.3) ∷ cs) ((cell_run s, a, b, 0) ∷ c ∷ cs))
    go true = tt
    go false = tt

cells-filled : (z : Position) → filled (cells z)
unfolding cells filled
cells-filled (Position.start e) = tt
cells-filled (Position.node_row r a c z) = tt
cells-filled (Position.part_row s r a b c z) = tt
cells-filled (Position.pair_side s r b c z) = step-filled s r (representative (pick s b c)) (cells z)
cells-filled (Position.node_spine r a c z) = tt
cells-filled (Position.fill_spine r b c z) = tt
cells-filled (Position.join_side s r b c z) = step-filled s r (rule_number (pick s b c)) (cells z)

-- a node of the placed forest is one of the located forest
unmapped : {A B : Type 0} (h : A → B) (x : Option A) (b : B) → option_map h x ≡ Some b → (a : A) × (x ≡ Some a) × (h a ≡ b)
unmapped h None b e = absurd (none-some _ e)
unmapped h (Some a) b e = (a, refl, same_Some (h a) b e)

module _ (w : Expression) (good : Good Sort.row w) where
  pub located-node : (p : Path) (a : Placed) → label_at (placed_of w) p ≡ Some a → (x : Located) × (label_at (located_of w) p ≡ Some x) × (placed_as x ≡ a)
  located-node p a e = unmapped placed_as (label_at (located_of w) p) a (sym (placed-label_at w p) ∙ e)

  -- a letter on the located forest is the letter on positions
  answer-above : (c : Letter) → answer (located_of w) c [] ≡ move_at w c None
  unfolding move_at answer is_above is_root label_at
  answer-above (Letter.root s) = answer-root good s []
  answer-above (Letter.child s) = refl
  answer-above (Letter.sibling s) = refl
  answer-above Letter.parent = refl
  answer-above Letter.stay = refl

  answer-node : (c : Letter) (p : Path) (e : Expression) (z : Position) → label_at (located_of w) p ≡ Some (e, z) → answer (located_of w) c p ≡ move_at w c (Some (e, z))
  unfolding move_at
  answer-node (Letter.root s) p e z h = answer-root good s p
  answer-node (Letter.child s) p e z h = answer-child good p h s
  answer-node (Letter.sibling s) p e z h = answer-sibling good p h s
  answer-node Letter.parent p e z h = answer-parent good p h
  answer-node Letter.stay p e z h = answer-stay good p h

  pub answer_at : (c : Letter) (p : Path) → Named (located_of w) p → answer (located_of w) c p ≡ move_at w c (label_at (located_of w) p)
  unfolding label_at
  answer_at c p Named.above = answer-above c
  answer_at c p (Named.node {a = a} h) = answer-node c p a.0 a.1 h ∙ sym (ap (move_at w c) h)

  pub moved_at_lem : (c : Letter) (p : Path) → Named (located_of w) p → label_at (located_of w) (moved (located_of w) c p) ≡ moved_at w c (label_at (located_of w) p)
  unfolding moved_at or_else
  moved_at_lem c p n =
      by-option (answer (located_of w) c p)
      (λ e. ap (label_at (located_of w)) (moved_nowhere (located_of w) c p e) ∙ ap (λ x. or_else x (label_at (located_of w) p)) (sym e ∙ answer_at c p n))
      (λ a e. answer-label (located_of w) c p e ∙ ap (λ x. or_else x (label_at (located_of w) p)) (sym e ∙ answer_at c p n))

  -- the place of a path is the cells of its position
  map-cells : (x : Option Located) → cells_of (option_map placed_as x) ≡ cells_at x
  unfolding cells_of cells_at
  map-cells None = refl
  map-cells (Some x) = refl

  pub place-cells : (p : Path) → place_at (placed_of w) p ≡ cells_at (label_at (located_of w) p)
  unfolding place_at
  place-cells p = ap cells_of (placed-label_at w p) ∙ map-cells (label_at (located_of w) p)

  pub named-located : (p : Path) → Named (placed_of w) p → Named (located_of w) p
  named-located p Named.above = Named.above
  named-located p (Named.node {a = a} e) = Named.node (located-node p a e).1

  -- the same place on cells
  pub same_at : (p : Path) → Named (located_of w) p → (n : Node) × Same w (label_at (located_of w) p) n
  unfolding label_at
  same_at p Named.above = ((0, []), Same.above)
  same_at p (Named.node {a = a} h) = ((rule_number a.0, cells a.1), rw h (Same.at (node_at_lem good p h)))

  module _ (F : Facts) (fit : Fit F Sort.row w) where
    -- "cells 1 to m − 16 are then the same before and after"
    pub near_by : (p : Path) (c : Letter) → Named (placed_of w) p → is_root c ≡ false → first_cells (min (length (place_at (placed_of w) p)) (length (place_at (placed_of w) (moved (placed_of w) c p))) - 16) (place_at (placed_of w) p) ≡ first_cells (min (length (place_at (placed_of w) p)) (length (place_at (placed_of w) (moved (placed_of w) c p))) - 16) (place_at (placed_of w) (moved (placed_of w) c p))
    near_by p c N r =
        let n = named-located p N in
        let s = same_at p n in
        let before : place_at (placed_of w) p ≡ s.0.1 = place-cells p ∙ sym (equal_cells w (label_at (located_of w) p) s.0 s.1) in
        let after : place_at (placed_of w) (moved (placed_of w) c p) ≡ (model.moved F (rule_number w) c s.0).1 =
        ap (place_at (placed_of w)) (placed-moved w c p)
        ∙ place-cells (moved (located_of w) c p)
        ∙ ap cells_at (moved_at_lem c p n)
        ∙ sym (equal_cells w (moved_at w c (label_at (located_of w) p)) (model.moved F (rule_number w) c s.0) (moved_same F w fit c (label_at (located_of w) p) s.0 s.1)) in
        rw (before, after) (first-cells-stay F (rule_number w) c s.0 r)

    -- each node has cells of its own
    pub all-distinct : Distinct (placed_of w)
    unfolding filled
    all-distinct =
        record {
          some_cells = λ p a e h. let x = located-node p a e in subst filled (ap (λ (y : Placed). y.1) x.2 ∙ h) (cells-filled x.0.1);
          one_node = λ p q a b e f h.
              let x = located-node p a e in
              let y = located-node q b f in
              let z : x.0.1 ≡ y.0.1 =
              places.same-position F w fit x.0.0 y.0.0 x.0.1 y.0.1 (node_at_lem good p x.1) (node_at_lem good q y.1)
              (ap (λ (v : Placed). v.1) x.2 ∙ h ∙ sym (ap (λ (v : Placed). v.1) y.2)) in
              paths.same-position good p q x.1 (y.1 ∙ ap (λ (v : Position). Some (y.0.0, v)) (sym z));
        }
