-- Looking for a node by its cells. What node_with finds has these cells, and where it finds nothing no node has them; so where
-- nodes have cells of their own, it finds each node by its own.
-- Assumes nothing.
use Prim.Native.Nat.{ℕ, zero, suc}
use mathlib.Core.Path.{◌≡◌, refl, sym, ap, subst, ◌∙◌}
use mathlib.Core.Bool.{Bool, true, false, cond, true≢false, false≢true, and-eq-true_iff}
use mathlib.Core.List.{[], ◌∷◌, cons≢nil}
use Rattle.std.specs.Prelude.{Option, None, Some}
use mathlib.Core.Logic.{◌⊎◌, inl, inr, ⊎_elim}
use lib.Dec.{eqb}
use borrow.Author.Tests.{eqb-true, eq-eqb}
use Rattle.forest.specs.Forest.{Forest}
use Rattle.forest.specs.Place.{Cell, Cells, Placed}
use Rattle.forest.specs.Reference.{Path, later, from, below, top, children_at, node_at, label_at}
use Rattle.forest.specs.Walk.{same_cell, same_cells, first_of, node_with, path_of, place_at, cells_of}
use Rattle.forest.proofs.Cases.{by-option}
use Rattle.forest.proofs.Each.{Each, each-label_at}
use Rattle.forest.specs.Position.{Named}

-- ---- equal cells

same-cell : (c d : Cell) → same_cell c d ≡ true → c ≡ d
unfolding same_cell
same-cell c d e =
    let p = (and-eq-true_iff (eqb c.0 d.0) _).0 e in
    let q = (and-eq-true_iff (eqb c.1 d.1) _).0 p.1 in
    let r = (and-eq-true_iff (eqb c.2 d.2) _).0 q.1 in
    λ i. (eqb-true c.0 d.0 p.0 i, eqb-true c.1 d.1 q.0 i, eqb-true c.2 d.2 r.0 i, eqb-true c.3 d.3 r.1 i)

cell_same : (c : Cell) → same_cell c c ≡ true
unfolding same_cell
cell_same c = simp (eq-eqb c.0 c.0 refl, eq-eqb c.1 c.1 refl, eq-eqb c.2 c.2 refl, eq-eqb c.3 c.3 refl)

pub equal_cells : (cs ds : Cells) → same_cells cs ds ≡ true → cs ≡ ds
unfolding same_cells
equal_cells [] [] e = refl
equal_cells [] (d ∷ ds) e = absurd (false≢true e)
equal_cells (c ∷ cs) [] e = absurd (false≢true e)
equal_cells (c ∷ cs) (d ∷ ds) e =
    let p = (and-eq-true_iff (same_cell c d) (same_cells cs ds)).0 e in
    λ i. same-cell c d p.0 i ∷ equal_cells cs ds p.1 i

pub cells_same : (cs : Cells) → same_cells cs cs ≡ true
unfolding same_cells
cells_same [] = refl
cells_same (c ∷ cs) = (and-eq-true_iff (same_cell c c) (same_cells cs cs)).1 (cell_same c, cells_same cs)

-- ---- what is found

later-rest : {A : Type 0} (i : ℕ) (g : Forest A) (a : A) (c f : Forest A) → later i g ≡ Forest.tree a c f → later (suc i) g ≡ f
unfolding later below
later-rest zero Forest.none a c f e = cc
later-rest zero (Forest.tree b d g) a c f e = cc
later-rest (suc i) Forest.none a c f e = cc
later-rest (suc i) (Forest.tree b d g) a c f e = later-rest i g a c f e

from-rest : {A : Type 0} (i : ℕ) (g : Forest A) (a : A) (c f : Forest A) → from i g ≡ Forest.tree a c f → from (suc i) g ≡ f
unfolding from
from-rest zero g a c f e = cc
from-rest (suc i) g a c f e = later-rest i g a c f e

-- a choice was made for its test, or one of the two later ones
chosen : (b : Bool) (r q : Path) (x y : Option Path) → cond b (Some r) (first_of x y) ≡ Some q → ((b ≡ true) × (r ≡ q)) ⊎ ((x ≡ Some q) ⊎ (y ≡ Some q))
unfolding first_of
chosen true r q x y e = inl (refl, cc)
chosen false r q None y e = inr (inr e)
chosen false r q (Some p) y e = inr (inl e)

-- what is found among the trees numbered from i on under the node at p has these cells
found_in : (cs : Cells) (G g : Forest Placed) (i : ℕ) (p q : Path) → from i (children_at G p) ≡ g → node_with cs g i p ≡ Some q → place_at G q ≡ cs
unfolding node_with place_at label_at node_at top cells_of from later children_at below
found_in cs G Forest.none i p q e n = cc
found_in cs G (Forest.tree a c f) i p q e n =
    ⊎_elim
    (λ h. here h)
    (⊎_elim (found_in cs G c 1 (i ∷ p) q under) (found_in cs G f (suc i) p q (from-rest i (children_at G p) a c f e)))
    (chosen (same_cells cs a.1) (i ∷ p) q (node_with cs c 1 (i ∷ p)) (node_with cs f (suc i) p) n)
  where
    here : (same_cells cs a.1 ≡ true) × ((i ∷ p) ≡ q) → cells_of (label_at G q) ≡ cs
    here h = rw (← h.1, e) (sym (equal_cells cs a.1 h.0))

    under : from 1 (children_at G (i ∷ p)) ≡ c
    under = rw e

-- where nothing is found, no node has these cells
neither : (b : Bool) (r : Path) (x y : Option Path) → cond b (Some r) (first_of x y) ≡ None → (b ≡ false) × (x ≡ None) × (y ≡ None)
unfolding first_of
neither true r x y e = (cc, cc, cc)
neither false r None y e = (refl, refl, e)
neither false r (Some p) y e = (refl, cc, cc)

pub not_found : (cs : Cells) (g : Forest Placed) (i : ℕ) (p : Path) → node_with cs g i p ≡ None → Each (λ (a : Placed). same_cells cs a.1 ≡ false) g
unfolding node_with
not_found cs Forest.none i p e = tt
not_found cs (Forest.tree a c f) i p e =
    let h = neither (same_cells cs a.1) (i ∷ p) (node_with cs c 1 (i ∷ p)) (node_with cs f (suc i) p) e in
    (h.0, not_found cs c 1 (i ∷ p) h.1, not_found cs f (suc i) p h.2)

-- ---- the path of some cells

-- what path_of gives has these cells
pub path-cells : (G : Forest Placed) (cs : Cells) (p : Path) → path_of G cs ≡ Some p → place_at G p ≡ cs
unfolding path_of place_at label_at node_at top cells_of from later children_at
path-cells G [] p e = let h : [] ≡ p = cc in rw (← h)
path-cells G (c ∷ cs) p e = found_in (c ∷ cs) G G 1 [] p refl e

-- what is found is above the forest or a node
pub path-named : (G : Forest Placed) (cs : Cells) (p : Path) → path_of G cs ≡ Some p → Named G p
unfolding path_of place_at cells_of
path-named G [] p e = let h : [] ≡ p = cc in subst (Named G) h Named.above
path-named G (c ∷ cs) p e = by-option (label_at G p) (λ x. absurd (cons≢nil (sym (path-cells G (c ∷ cs) p e) ∙ ap cells_of x))) (λ a x. Named.node x)

-- every node has cells, and no two nodes share theirs
pub record Distinct (G : Forest Placed) : Type 0 where
  pub some_cells : (p : Path) (a : Placed) → label_at G p ≡ Some a → a.1 ≡ [] → ⊥
  pub one_node : (p q : Path) (a b : Placed) → label_at G p ≡ Some a → label_at G q ≡ Some b → a.1 ≡ b.1 → p ≡ q

module _ (G : Forest Placed) (D : Distinct G) where
  -- the node with the cells of the node at p is the node at p
  same-node : (p q : Path) (a : Placed) → label_at G p ≡ Some a → place_at G q ≡ a.1 → q ≡ p
  unfolding place_at cells_of
  same-node p q a e h = go (label_at G q) refl
    where
      go : (x : Option Placed) → label_at G q ≡ x → q ≡ p
      go None k = absurd (D.some_cells p a e (sym h ∙ ap cells_of k))
      go (Some b) k = D.one_node q p b a k e (sym (ap cells_of k) ∙ h)

  found-node : (p : Path) (a : Placed) (cs : Cells) → a.1 ≡ cs → label_at G p ≡ Some a → node_with cs G 1 [] ≡ Some p
  unfolding from children_at
  found-node p a cs u e = go (node_with cs G 1 []) refl
    where
      go : (x : Option Path) → node_with cs G 1 [] ≡ x → node_with cs G 1 [] ≡ Some p
      go None k = absurd (true≢false (sym (rw u (cells_same cs)) ∙ each-label_at (λ (b : Placed). same_cells cs b.1 ≡ false) G p a (not_found cs G 1 [] k) e))
      go (Some q) k = k ∙ ap Some (same-node p q a e (found_in cs G G 1 [] q refl k ∙ sym u))

  pub path-of-place : (p : Path) → Named G p → path_of G (place_at G p) ≡ Some p
  unfolding path_of place_at cells_of label_at
  path-of-place p Named.above = refl
  path-of-place p (Named.node {a = a} e) = go a.1 refl
    where
      go : (cs : Cells) → a.1 ≡ cs → path_of G (cells_of (label_at G p)) ≡ Some p
      go [] u = absurd (D.some_cells p a e u)
      go (c ∷ cs) u = rw (e, u) (found-node p a (c ∷ cs) u e)
