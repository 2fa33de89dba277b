-- What the facts of a plan's rules name are rules of the plan: each fact of a rule is the number of a rule inside its expression.
-- Assumes nothing.
use Prim.Native.Nat.{ℕ, ◌<◌}
use mathlib.Core.Bool.{Bool, true, false, cond}
use mathlib.Core.List.{List}
use lib.ListN.{length}
use Rattle.rule.specs.declared.Rule.{Rule}
use Rattle.rule.specs.Sound.{Sound}
use Rattle.forest.specs.Expression.{Expression, expression, rule_number}
use Rattle.forest.specs.Place.{Side, is_empty, representative}
use Rattle.forest.specs.Sides.{pick}
use Rattle.forest.proofs.Unfold.{unfolding-equation, rule_number-expression, expression-known}
use Rattle.model.specs.Facts.{toward, last, facts_of}
use Rattle.model.proofs.Rules.{facts-agree, rules-inside}
use Rattle.model.proofs.Ranged.{Every, number_in, representative-in}

module _ (P : ℕ → Type 0) where
  either : (t : Bool) (a b : ℕ) → P a → P b → P (cond t a b)
  either true a b p q = p
  either false a b p q = q

  sided : {A : Type 0} (s : Side) (f : A → ℕ) (b c : A) → P (f b) → P (f c) → P (f (pick s b c))
  unfolding pick
  sided Side.left f b c p q = p
  sided Side.right f b c p q = q

  pub toward-in : (s : Side) (e : Expression) → Every P e → P (toward s e)
  unfolding toward
  toward-in s e (Every.empty p) = p
  toward-in s e (Every.pair {r} {b} {c} p hb hc) =
      either (is_empty b) (toward s c) (cond (is_empty c) (toward s b) (representative (pick s b c))) (toward-in s c hc)
      (either (is_empty c) (toward s b) (representative (pick s b c)) (toward-in s b hb) (sided s representative b c (representative-in P b hb) (representative-in P c hc)))
  toward-in s e (Every.node p h) = p
  toward-in s e (Every.fill p hb hc) = p
  toward-in s e (Every.part p hb hc) = p
  toward-in s e (Every.join {r} {b} {c} p hb hc) = sided s rule_number b c (number_in P b hb) (number_in P c hc)

  pub last-in : (s : Side) (e : Expression) → Every P e → P (last s e)
  unfolding last pick
  last-in s e (Every.empty p) = p
  last-in s e (Every.pair {r} {b} {c} p hb hc) =
      either (is_empty b) (last s c) (cond (is_empty c) (last s b) (pick s (last s b) (last s c))) (last-in s c hc)
      (either (is_empty c) (last s b) (pick s (last s b) (last s c)) (last-in s b hb) (sided s (λ (x : ℕ). x) (last s b) (last s c) (last-in s b hb) (last-in s c hc)))
  last-in s e (Every.node p h) = p
  last-in s e (Every.fill p hb hc) = p
  last-in s e (Every.part p hb hc) = p
  last-in s e (Every.join {r} {b} {c} p hb hc) = sided s (λ (x : ℕ). x) (last s b) (last s c) (last-in s b hb) (last-in s c hc)

module _ {R : List Rule} {rank : ℕ → ℕ} (S : Sound R rank) (r : ℕ) (h : r < length R) where
  inside : Every (λ x. x < length R) (expression R r)
  inside = rules-inside R rank S (rule_number-expression R) (unfolding-equation S) (facts_of R) (λ k l. facts-agree R k) r h (expression-known S r h)

  pub representative-below : (facts_of R).representative r < length R
  unfolding facts_of
  representative-below = representative-in (λ x. x < length R) (expression R r) inside

  pub toward-below : (s : Side) → (facts_of R).toward s r < length R
  unfolding facts_of
  toward-below s = toward-in (λ x. x < length R) s (expression R r) inside

  pub last-below : (s : Side) → (facts_of R).last s r < length R
  unfolding facts_of
  last-below s = last-in (λ x. x < length R) s (expression R r) inside
