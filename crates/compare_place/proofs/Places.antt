-- The tasks that compare begins with at a place of a sound plan's forest: they say the tokens of the subtree there, and fit a stack of
-- three words a rule. Assumes nothing.
use Prim.Native.Nat.{ℕ, ◌*◌, ◌≤◌, ◌<◌}
use native.Mathlib.Omega.{arith}
use mathlib.Core.Path.{◌≡◌, refl, sym, ◌∙◌}
use mathlib.Core.List.{List, []}
use Rattle.std.specs.Prelude.{Option, Some}
use lib.ListN.{length}
use Rattle.rule.specs.declared.Rule.{Rule}
use Rattle.rule.specs.Sound.{rule, Sound, Closed}
use Rattle.forest.specs.Expression.{Expression, expression, rule_number}
use Rattle.forest.specs.Forest.{Forest, forest}
use Rattle.forest.specs.Spelling.{in_tokens}
use Rattle.forest.specs.Sizes.{height}
use Rattle.forest.specs.Compare.{subtree_at, pairs_found}
use Rattle.forest.specs.Reference.{Path, label_at}
use Rattle.forest.specs.Good.{Sort, Good}
use Rattle.forest.specs.Position.{Position, Located, At, Where, cells, located_of}
use Rattle.forest.proofs.Unfold.{unfolding-equation, rule_number-expression, expression-known, closed-row, height-expression}
use Rattle.forest.proofs.Nodes.{node_at_lem}
use Rattle.model.specs.Facts.{Facts}
use Rattle.model.specs.Run.{Node}
use Rattle.model.specs.Same.{Same}
use Rattle.model.proofs.Fit.{Fit}
use Rattle.model.proofs.Rules.{Agrees, rules-fit, rules-inside}
use Rattle.spread_stack.specs.Run.{Stacked}
use Rattle.compare_tokens.specs.Tokens.{tokens, differs}
use Rattle.compare_tokens.specs.Stacks.{tasks_tokens}
use Rattle.compare_tokens.specs.Parts.{subtree_parts}
use Rattle.compare_tokens.proofs.Difference.{same-difference}
use Rattle.compare_tokens.proofs.Parts.{subtree-spoken, tasks-parts}
use Rattle.compare_place.specs.Begun.{begun_tasks}
use Rattle.compare_place.proofs.Crumbs.{Low}
use Rattle.compare_place.proofs.Cells.{Takes, begun-parts}
use Rattle.compare_place.proofs.Heights.{Ruled, begun-stacked, begun-lefts, begun-wordable}

-- tasks that say a subtree's tokens, and fit a stack
pub record Begins (R : List Rule) (g : Forest ℕ) (vs : List ℕ) : Type 0 where
  pub says : tasks_tokens (expression R) vs ≡ tokens g
  pub stacked : Stacked (expression R) (length R) (3 * length R) vs

-- any facts that agree with those of the plan's rules, and any way to take a run of left steps
module _ {R : List Rule} {rank : ℕ → ℕ} (S : Sound R rank) {r : ℕ} (closed : Closed R r) (F : Facts) (agrees : (k : ℕ) → k < length R → Agrees F R k)
    (run : ℕ → ℕ → List ℕ → List ℕ) (takes : Takes F (length R) run) where
  abbrev walked : Expression
  walked = expression R r

  good : Good Sort.row walked
  good = closed-row S closed

  fit : Fit F Sort.row walked
  fit =
      rules-fit R rank S (rule_number-expression R) (unfolding-equation S) F agrees Sort.row r closed.below good
      (expression-known S r closed.below)

  low : Low (Ruled (expression R) (length R)) (length R) 0 walked
  low =
      record {
        has = record {
          known = expression-known S r closed.below;
          ranged = rules-inside R rank S (rule_number-expression R) (unfolding-equation S) F agrees r closed.below (expression-known S r closed.below);
        };
        low = omega (arith, height-expression R r);
      }

  -- at the node with an expression and a position
  pub begins-at : {e : Expression} {z : Position} (p : Path) → label_at (located_of (expression R r)) p ≡ Some (e, z)
      → Begins R (subtree_at (forest R r) p) (begun_tasks F.rule run (rule_number e) (cells z))
  unfolding forest
  begins-at {e} {z} p q =
      let h : At (expression R r) Where.here e z = node_at_lem good p q in
      rw (begun-parts F (length R) run takes (expression R r) fit e z (begun-lefts (expression R) (length R) low h) h)
      (record {
        says = tasks-parts in_tokens (expression R) (subtree_parts e z) (begun-wordable (expression R) (length R) low h) ∙ sym (subtree-spoken in_tokens good p q);
        stacked = begun-stacked (expression R) (length R) low h;
      })

  -- at a place that is the same on cells
  begins-some : (x : Option Located) (m : Node) (p : Path) → Same (expression R r) x m → label_at (located_of (expression R r)) p ≡ x → (m.1 ≡ [] → ⊥)
      → Begins R (subtree_at (forest R r) p) (begun_tasks F.rule run m.0 m.1)
  begins-some x m p Same.above q f = absurd (f refl)
  begins-some x m p (Same.at h) q f = begins-at p q

  pub begins : (p : Path) (m : Node) → Same (expression R r) (label_at (located_of (expression R r)) p) m → (m.1 ≡ [] → ⊥)
      → Begins R (subtree_at (forest R r) p) (begun_tasks F.rule run m.0 m.1)
  begins p m h f = begins-some (label_at (located_of (expression R r)) p) m p h refl f

  -- its rule is not an empty one
  high-at : {e : Expression} {z : Position} → At (expression R r) Where.here e z → 1 ≤ height (expression R (rule_number e))
  unfolding height subtree_parts
  high-at (At.node h) = rw (begun-wordable (expression R) (length R) low (At.node h)).0.known (omega arith)
  high-at (At.part h) = rw (begun-wordable (expression R) (length R) low (At.part h)).0.known (omega arith)

  high-some : (x : Option Located) (m : Node) → Same (expression R r) x m → (m.1 ≡ [] → ⊥) → 1 ≤ height (expression R m.0)
  high-some x m Same.above f = absurd (f refl)
  high-some x m (Same.at h) f = high-at h

  pub begun-high : (p : Path) (m : Node) → Same (expression R r) (label_at (located_of (expression R r)) p) m → (m.1 ≡ [] → ⊥)
      → 1 ≤ height (expression R m.0)
  begun-high p m h f = high-some (label_at (located_of (expression R r)) p) m h f

-- two subtrees begun: they are compared by the tokens of the tasks
pub begun-found : {R : List Rule} {f g : Forest ℕ} {vs ws : List ℕ} → Begins R f vs → Begins R g ws
    → pairs_found f g ≡ differs (tasks_tokens (expression R) vs) (tasks_tokens (expression R) ws)
unfolding pairs_found
begun-found {f = f} {g = g} h k = rw (h.says, k.says) (sym (same-difference f g))
