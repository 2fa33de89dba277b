-- A node on cells that is the place of a node of the walked forest, or above it: every letter keeps it so, it has at most 3 × n
-- cells, and every rule number in them is below n. Assumes nothing.
use Prim.Native.Nat.{ℕ, ◌*◌, ◌≤◌, ◌<◌}
use native.Mathlib.Omega.{arith}
use mathlib.Core.Path.{◌≡◌, refl, ap, ◌∙◌, subst}
use mathlib.Core.List.{List, []}
use Rattle.std.specs.Prelude.{Option, option_map}
use lib.ListN.{length}
use Rattle.rule.specs.declared.Rule.{Rule}
use Rattle.rule.specs.Sound.{Sound, Closed}
use Rattle.forest.specs.Expression.{expression}
use Rattle.forest.specs.Place.{placed_forest}
use Rattle.forest.specs.Letter.{Letter}
use Rattle.forest.specs.Good.{Sort, Good}
use Rattle.forest.proofs.Unfold.{unfolding-equation, rule_number-expression, expression-known, closed-row}
use Rattle.forest.proofs.Bound.{place-bound}
use Rattle.forest.specs.Position.{Located, cells, label_of}
use Rattle.forest.proofs.Finger.{placed-label_at}
use Rattle.forest.proofs.Placed.{placed_as}
use Rattle.forest.proofs.Covered.{at_node}
use Rattle.model.specs.Facts.{Facts}
use Rattle.model.specs.Model.{Node}
use Rattle.model.specs.Walk.{moved}
use Rattle.model.proofs.Fit.{Fit}
use Rattle.model.proofs.Rules.{Agrees, rules-fit, rules-inside}
use Rattle.model.proofs.Ranged.{Every, Numbers, node-number, cell-numbers}
use Rattle.model.proofs.Walk.{moved_at, moved_same}
use Rattle.model.specs.Same.{Same}
use Rattle.letter_moves.specs.Standing.{Valid}

module _ {R : List Rule} {rank : ℕ → ℕ} (S : Sound R rank) {r : ℕ} (C : Closed R r) (F : Facts) (agrees : (k : ℕ) → k < length R → Agrees F R k) where
  pub good : Good Sort.row (expression R r)
  good = closed-row S C

  pub fit : Fit F Sort.row (expression R r)
  fit = rules-fit R rank S (rule_number-expression R) (unfolding-equation S) F agrees Sort.row r C.below good (expression-known S r C.below)

  inside : Every (λ x. x < length R) (expression R r)
  inside = rules-inside R rank S (rule_number-expression R) (unfolding-equation S) F agrees r C.below (expression-known S r C.below)

  -- a letter keeps it
  pub valid-moved : (l : Letter) (n : Node) → Valid R r n → Valid R r (moved F r l n)
  valid-moved l n v =
      record {
        position = moved_at (expression R r) l v.position;
        same = subst (λ (k : ℕ). Same (expression R r) (moved_at (expression R r) l v.position) (moved F k l n)) (rule_number-expression R r) (moved_same F (expression R r) fit l v.position n v.same);
      }

  -- its cells are few
  same-short : (x : Option Located) (n : Node) → Same (expression R r) x n → length n.1 ≤ 3 * length R
  unfolding placed_forest
  same-short x n Same.above = omega arith
  same-short x n (Same.at {e} {z} h) =
      let p = at_node good h in
      place-bound S C p.0 (label_of e) (cells z) (placed-label_at (expression R r) p.0 ∙ ap (option_map placed_as) p.1)

  pub valid-short : (n : Node) → Valid R r n → length n.1 ≤ 3 * length R
  valid-short n v = same-short v.position n v.same

  -- and name rules below n
  same_numbers : (x : Option Located) (n : Node) → Same (expression R r) x n → Numbers (λ y. y < length R) n.1
  same_numbers x n Same.above = Numbers.none
  same_numbers x n (Same.at {e} {z} h) = cell-numbers (λ y. y < length R) (expression R r) e z inside h

  pub valid-numbers : (n : Node) → Valid R r n → Numbers (λ y. y < length R) n.1
  valid-numbers n v = same_numbers v.position n v.same

  -- above the forest no rule is read; at a node it is below n
  same-rule : (x : Option Located) (n : Node) → Same (expression R r) x n → (n.1 ≡ [] → ⊥) → n.0 < length R
  same-rule x n Same.above e = absurd (e refl)
  same-rule x n (Same.at {e} {z} h) k = node-number (λ y. y < length R) (expression R r) e z inside h

  pub valid-rule : (n : Node) → Valid R r n → (n.1 ≡ [] → ⊥) → n.0 < length R
  valid-rule n v e = same-rule v.position n v.same e
