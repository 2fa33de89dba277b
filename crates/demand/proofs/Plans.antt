-- The forest of a closed rule of an accepted plan is walkable: its rules are sound, so its nodes are the positions in an expression, each position
-- has cells of its own, and a letter on positions is a letter on cells. Assumes nothing.
use Rattle.std.specs.Prelude.{Ok}
use Prim.Native.Nat.{ℕ}
use native.Mathlib.Omega.{arith}
use mathlib.Core.Path.{◌≡◌}
use mathlib.Core.List.{List}
use Rattle.rule.specs.Sound.{Closed}
use Rattle.plan.specs.Check.{checked, rules_of}
use Rattle.plan.proofs.Sound.{checked-plan}
use Rattle.forest.specs.Expression.{expression}
use Rattle.forest.specs.Forest.{forest}
use Rattle.forest.specs.Place.{Placed, placed_of, placed_forest}
use Rattle.forest.specs.Good.{Sort, Good}
use Rattle.forest.proofs.Unfold.{unfolding-equation, rule_number-expression, expression-known, closed-row}
use Rattle.forest.proofs.Each.{each-label_at}
use Rattle.forest.proofs.Forget.{placed_forest-forgets}
use Rattle.forest.proofs.Bound.{place-bound}
use Rattle.forest.proofs.Fit.{places-fit}
use Rattle.forest.proofs.Nowhere.{label-below}
use Rattle.forest.proofs.Stored.{AllFitting}
use Rattle.forest.proofs.Unique as paths
use Rattle.model.specs.Facts.{facts_of}
use Rattle.model.specs.Walk as model
use Rattle.model.proofs.Fit.{Fit}
use Rattle.model.proofs.Rules.{facts-agree, rules-fit}
use Rattle.model.proofs.Paths.{near_by, all-distinct}
use Rattle.demand.specs.Demand.{SameButSixteen}
use Rattle.demand.proofs.Walkable.{Walkable}

-- ---- plans, and any closed rule of one

module _ (s : List ℕ) (n start : ℕ) (e : checked s ≡ Ok (record { n = n; start = start })) (r : ℕ) (C : Closed (rules_of s) r) where
  -- the walked rule's expression is a forest's, and the facts of the rules are those of its parts
  pub walked-good : Good Sort.row (expression (rules_of s) r)
  walked-good = closed-row (checked-plan s n start e).sound C

  pub walked-fit : Fit (facts_of (rules_of s)) Sort.row (expression (rules_of s) r)
  walked-fit =
      let S = (checked-plan s n start e).sound in
      rules-fit (rules_of s) _ S (rule_number-expression (rules_of s)) (unfolding-equation S) (facts_of (rules_of s)) (λ r h. facts-agree (rules_of s) r) Sort.row r C.below walked-good
      (expression-known S r C.below)

  pub walkable : Walkable n (forest (rules_of s) r) (placed_forest (rules_of s) r)
  unfolding placed_forest SameButSixteen
  walkable =
      let P = checked-plan s n start e in
      let w = expression (rules_of s) r in
      record {
        few = let h = P.greatest in omega arith;
        forgets = placed_forest-forgets (rules_of s) r;
        distinct = all-distinct w walked-good (facts_of (rules_of s)) walked-fit;
        bounded = λ p a h. let b = place-bound P.sound C p a.0 a.1 h in let l = P.rules in omega arith;
        fitting = λ p a h. each-label_at (λ (x : Placed). AllFitting x.1) (placed_of w) p a (places-fit P.sound (let g = P.greatest in let l = P.rules in omega arith) r C.below) h;
        labels = label-below s n start e r C.below;
        near = λ p c N r. near_by w walked-good (facts_of (rules_of s)) walked-fit p c N r;
      }

-- "The start rule is closed."
pub start-closed : (s : List ℕ) (n start : ℕ) → checked s ≡ Ok (record { n = n; start = start }) → Closed (rules_of s) start
start-closed s n start e = (checked-plan s n start e).ends
