-- At every node exactly one of document 003's five neighbour conditions holds, and the first that holds gives the finger's answer. In
-- a hole, what stands up the spine is a part, whose L or R is empty or not; else the row goes on, or ends at a hole, or not.
-- Assumes nothing.
use Prim.Native.Nat.{ℕ}
use mathlib.Core.Path.{◌≡◌, refl, sym, ap, ◌∙◌, subst}
use Rattle.std.specs.Prelude.{Option, None, Some, option_map}
use Rattle.forest.specs.Expression.{Expression, rule_number}
use Rattle.forest.specs.Place.{Side, Cells, Placed, placed_of}
use Rattle.forest.specs.Position.{Position, Located, At, Where, cells, located_of}
use Rattle.forest.specs.Letter.{Letter}
use Rattle.forest.specs.Reference.{Path, label_at, answer}
use Rattle.forest.specs.Good.{Sort, Good}
use Rattle.forest.specs.Position as P
use Rattle.forest.proofs.Finger.{answer-sibling, placed-answer}
use Rattle.forest.proofs.Nodes.{node_at_lem}
use Rattle.forest.proofs.Placed.{placed_as}
use Rattle.model.specs.Facts.{Facts}
use Rattle.model.specs.Model.{Node, standing, outward, sibling}
use Rattle.model.specs.Neighbour.{sibling_cases, how_many}
use Rattle.model.specs.FirstCase.{placed_node, FirstCase}
use Rattle.model.proofs.Fit.{Fit, shape}
use Rattle.model.proofs.Standing.{Here, whole, standing_here}
use Rattle.model.proofs.Enter.{Agree, nowhere, found}
use Rattle.model.proofs.Spine.{Out, inside, alone, IsPart, is_a_part, outwards}
use Rattle.model.proofs.Stages.{one-in-row, one-in-hole}
use Rattle.model.proofs.Moves.{sibling-agrees}
use Rattle.model.proofs.Walk.{label_is}
use Rattle.model.proofs.Paths.{located-node}

module _ (F : Facts) (w : Expression) (g : Fit F Sort.row w) where
  hole-one : (s : Side) (x : Node) (e : Expression) (z : Position) → IsPart e → Here F e → outward F x.1 ≡ Some (rule_number e, cells z) → how_many (sibling_cases F s x) ≡ 1
  unfolding rule_number shape
  hole-one s x e z (is_a_part {r} {a} {b} {c}) (Here.part t gb gc) q = one-in-hole F s x (r, cells z) a (rule_number b) (rule_number c) q t.rule

  out_one : (s : Side) (p : ℕ) (z : Position) → Out F w z → how_many (sibling_cases F s (p, cells z)) ≡ 1
  out_one s p z (inside x i h u v) = hole-one s (p, cells z) x.0 x.1 i (whole F w g Where.here x.0 x.1 h).0 v
  out_one s p z (alone e h u v q) = one-in-row F s (p, cells z) v

  -- exactly one condition holds
  pub exactly-one : (s : Side) (e : Expression) (z : Position) → At w Where.here e z → how_many (sibling_cases F s (rule_number e, cells z)) ≡ 1
  exactly-one s e z h = out_one s (rule_number e) z (outwards F w g e z h)

  agree-placed : (x : Option Located) (y : Option Node) → Agree w x y → option_map placed_as x ≡ option_map (placed_node F) y
  agree-placed x y nowhere = refl
  agree-placed x y (found {e} {z} h) = ap (λ (a : ℕ). Some (a, cells z)) (sym (label_is F w g e z h))

  first-case : (good : Good Sort.row w) (s : Side) (p : Path) (e : Expression) (z : Position) → label_at (located_of w) p ≡ Some (e, z) → FirstCase F s (rule_number e, cells z) (answer (placed_of w) (Letter.sibling s) p)
  unfolding sibling
  first-case good s p e z q =
      let h : At w Where.here e z = node_at_lem good p q in
      record {
        one = exactly-one s e z h;
        first =
            placed-answer w (Letter.sibling s) p
            ∙ ap (option_map placed_as) (answer-sibling good p q s)
            ∙ agree-placed (P.sibling s z) (sibling F s (rule_number e, cells z)) (sibling-agrees F w g s e z h);
      }

  -- at every node of the placed forest, known by its cells
  pub first-cases : (good : Good Sort.row w) (s : Side) (p : Path) (a : Placed) → label_at (placed_of w) p ≡ Some a → FirstCase F s (standing F a.1, a.1) (answer (placed_of w) (Letter.sibling s) p)
  first-cases good s p a q =
      let x = located-node w good p a q in
      let e = x.0.0 in let z = x.0.1 in
      let k : cells z ≡ a.1 = ap (λ (b : Placed). b.1) x.2 in
      subst (λ (cs : Cells). FirstCase F s (standing F cs, cs) (answer (placed_of w) (Letter.sibling s) p)) k
      (rw (standing_here F w g e z (node_at_lem good p x.1)) (first-case good s p e z x.1))
