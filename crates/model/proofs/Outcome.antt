-- A whole call of the walker on cells is the finger's: the test of stored cells accepts exactly the places of nodes, and from such a
-- place the answers and the cells after some letters are those of the finger's paths. Assumes nothing.
use Prim.Native.Nat.{ℕ}
use mathlib.Core.Path.{◌≡◌, refl, sym, ap, ap₂, ◌∙◌}
use mathlib.Core.Bool.{true, false, true≢false}
use mathlib.Core.List.{List, [], ◌∷◌}
use Rattle.std.specs.Prelude.{Option, None, Some, option_map}
use Rattle.forest.specs.Expression.{Expression, rule_number}
use Rattle.forest.specs.Forest.{Forest}
use Rattle.forest.specs.Relabel.{relabel}
use Rattle.forest.specs.Place.{Cell, Cells, placed_of}
use Rattle.forest.specs.Letter.{Letter}
use Rattle.forest.specs.Reference.{Path, label_at, answer, moved, answers, path_after}
use Rattle.forest.specs.Walk.{place_at, path_of}
use Rattle.forest.specs.Good.{Sort, Good}
use Rattle.forest.specs.Position.{Located, label_of, located_of, Named}
use Rattle.forest.proofs.Forget.{label}
use Rattle.forest.proofs.Steps.{moved_named}
use Rattle.forest.proofs.Relabel.{answer-relabel, moved-relabel, path_after-relabel}
use Rattle.forest.proofs.Finger.{placed-label_at, placed-answer, placed-moved, placed-after}
use Rattle.forest.proofs.Placed.{placed_as}
use Rattle.forest.proofs.Nodes.{node_at_lem}
use Rattle.forest.proofs.Covered.{at_node}
use Rattle.forest.proofs.Search.{path-cells, path-of-place}
use Rattle.model.specs.Facts.{Facts}
use Rattle.model.specs.Model.{Node, standing}
use Rattle.model.specs.Stored.{accepts}
use Rattle.model.specs.Walk as model
use Rattle.model.proofs.Fit.{Fit}
use Rattle.model.proofs.Accepted.{accepts-node}
use Rattle.model.proofs.Rebuilt.{NodeWith, accepted-node}
use Rattle.model.proofs.Walk.{move_at, answers_at, after_at, cells_at, answers-are, cells-after, same_here}
use Rattle.model.specs.Same.{Same}
use Rattle.model.proofs.Paths.{answer_at, moved_at_lem, place-cells, all-distinct}

-- labels taken off one by one
map-twice : (x : Option Located) → option_map label (option_map placed_as x) ≡ option_map (λ (y : Located). label_of y.0) x
map-twice None = refl
map-twice (Some x) = refl

module _ (w : Expression) (good : Good Sort.row w) where
  -- the forest of labels
  abbrev labels : Forest ℕ
  labels = relabel label (placed_of w)

  label-answer : (c : Letter) (p : Path) → Named (located_of w) p → answer labels c p ≡ option_map (λ (y : Located). label_of y.0) (move_at w c (label_at (located_of w) p))
  label-answer c p n =
      answer-relabel label (placed_of w) c p
      ∙ ap (option_map label) (placed-answer w c p)
      ∙ map-twice (answer (located_of w) c p)
      ∙ ap (option_map (λ (y : Located). label_of y.0)) (answer_at w good c p n)

  label-moved : (c : Letter) (p : Path) → moved labels c p ≡ moved (located_of w) c p
  label-moved c p = moved-relabel label (placed_of w) c p ∙ placed-moved w c p

  -- letters taken in turn
  answers_at_lem : (cs : List Letter) (p : Path) → Named (located_of w) p → answers labels cs p ≡ answers_at w cs (label_at (located_of w) p)
  unfolding answers answers_at
  answers_at_lem [] p n = refl
  answers_at_lem (c ∷ cs) p n =
      ap₂ (λ (x : Option ℕ) (xs : List (Option ℕ)). x ∷ xs) (label-answer c p n)
      (ap (answers labels cs) (label-moved c p)
      ∙ answers_at_lem cs (moved (located_of w) c p) (moved_named (located_of w) c p n)
      ∙ ap (answers_at w cs) (moved_at_lem w good c p n))

  after-at : (cs : List Letter) (p : Path) → Named (located_of w) p → label_at (located_of w) (path_after (located_of w) cs p) ≡ after_at w cs (label_at (located_of w) p)
  unfolding path_after after_at
  after-at [] p n = refl
  after-at (c ∷ cs) p n = after-at cs (moved (located_of w) c p) (moved_named (located_of w) c p n) ∙ ap (after_at w cs) (moved_at_lem w good c p n)

  module _ (F : Facts) (fit : Fit F Sort.row w) where
    -- the answers of a call
    pub call-answers : (cs : List Letter) (p : Path) (n : Node) → Named (located_of w) p → Same w (label_at (located_of w) p) n → answers labels cs p ≡ model.answers F (rule_number w) cs n
    call-answers cs p n N s = answers_at_lem cs p N ∙ sym (answers-are F w fit cs (label_at (located_of w) p) n s)

    -- the cells after it
    pub call-cells : (cs : List Letter) (p : Path) (n : Node) → Named (located_of w) p → Same w (label_at (located_of w) p) n → place_at (placed_of w) (path_after labels cs p) ≡ (model.after F (rule_number w) cs n).1
    call-cells cs p n N s =
        ap (place_at (placed_of w)) (path_after-relabel label (placed_of w) cs p ∙ placed-after w cs p)
        ∙ place-cells w good (path_after (located_of w) cs p)
        ∙ ap cells_at (after-at cs p N)
        ∙ sym (cells-after F w fit cs (label_at (located_of w) p) n s)

    -- stored cells that the test accepts are those of the node at a path
    pub record Found (cs : Cells) : Type 0 where
      pub path : Path
      pub named : Named (located_of w) path
      pub found : path_of (placed_of w) cs ≡ Some path
      pub same : Same w (label_at (located_of w) path) (standing F cs, cs)

    pub accepted-path : (cs : Cells) → accepts F (rule_number w) cs ≡ true → Found cs
    unfolding cells_at
    accepted-path cs q =
        let n : NodeWith w cs = accepted-node F w fit cs q in
        let h = at_node good n.there in
        let here : label_at (placed_of w) h.0 ≡ Some (placed_as (n.expression, n.position)) = placed-label_at w h.0 ∙ ap (option_map placed_as) h.1 in
        let place : place_at (placed_of w) h.0 ≡ cs = place-cells w good h.0 ∙ ap cells_at h.1 ∙ n.equal_cells in
        record {
          path = h.0;
          named = Named.node h.1;
          found = sym (ap (path_of (placed_of w)) place) ∙ path-of-place (placed_of w) (all-distinct w good F fit) h.0 (Named.node here);
          same = rw h.1 (rw n.equal_cells at (same_here F w fit n.expression n.position n.there));
        }

    -- and where it refuses there is none
    refused-node : (x : Option Located) (p : Path) (cs : Cells) → label_at (located_of w) p ≡ x → cells_at x ≡ cs → accepts F (rule_number w) cs ≡ false → cs ≡ []
    unfolding cells_at
    refused-node None p cs l e q = sym e
    refused-node (Some x) p cs l e q = absurd (true≢false (sym (accepts-node F w fit x.0 x.1 (node_at_lem good p l)) ∙ ap (accepts F (rule_number w)) e ∙ q))

    pub refused-path : (c : Cell) (cs : Cells) → accepts F (rule_number w) (c ∷ cs) ≡ false → path_of (placed_of w) (c ∷ cs) ≡ None
    refused-path c cs q = go (path_of (placed_of w) (c ∷ cs)) refl
      where
        go : (x : Option Path) → path_of (placed_of w) (c ∷ cs) ≡ x → path_of (placed_of w) (c ∷ cs) ≡ None
        go None e = e
        go (Some p) e =
            let k : (c ∷ cs) ≡ [] = refused-node (label_at (located_of w) p) p (c ∷ cs) refl (sym (place-cells w good p) ∙ path-cells (placed_of w) (c ∷ cs) p e) q in
            cc
