-- The loop over rules: as long as rules pass, what comes after them decides, and the flag says that those seen name only lower ones.
-- Assumes nothing.
use Rattle.std.specs.Prelude.{Result, Ok, Err, Option, Some, None}
use Rattle.rule.specs.declared.Rule.{Rule}
use Prim.Native.Nat.{ℕ, ◌+◌, ◌-◌, ◌≤◌, ◌<◌}
use native.Mathlib.Omega.{arith}
use native.Mathlib.Decide.{dec_lt}
use mathlib.Core.Path.{◌≡◌, refl, sym, ap, subst, ◌∙◌}
use mathlib.Core.Bool.{Bool, true, false, ◌&&◌, false≢true, and-eq-true_iff}
use mathlib.Core.List.{List}
use lib.ListN.{length}
use lib.Dec.{T, ltb}
use Rattle.record.specs.declared.Format.{Format}
use Rattle.refusal.specs.declared.Refusal.{Refusal}
use Rattle.record.specs.declared.Record.{Record}
use Rattle.record.specs.Records.{record_in, kind_at}
use Rattle.rule.specs.Rule.{decode, every, sorts, rules_in}
use Rattle.rule.specs.Sound.{rule}
use Rattle.rule.proofs.Rules.{length-rules_in, rule-decoded}
use Rattle.judge.specs.Judge.{rules_judged}
use Rattle.judge.specs.Tested.{verdict, tested_of, tested, Passed, Tells}
use Rattle.judge.proofs.Judging.{fine, not-fine, rules-fine, rules-refused, rules-none}

module _ (f : Format) where
  -- a rule that is told to name only lower ones does
  is_lower : Result Bool Refusal → Bool
  is_lower (Ok lower) = lower
  is_lower (Err r) = false

  verdict-lower : (i : ℕ) (a b l : Bool) → is_lower (verdict i true a b l) ≡ true → l ≡ true
  unfolding is_lower verdict
  verdict-lower i true true l h = h
  verdict-lower i true false l h = absurd (false≢true h)
  verdict-lower i false b l h = absurd (false≢true h)

  names-lower : (ws : List Record) (i : ℕ) (d : Option Rule) → d ≡ decode f (record_in ws i) → is_lower (tested_of ws i d) ≡ true → T (every (λ x. ltb x i) (rule (rules_in f ws) i))
  unfolding is_lower tested_of
  names-lower ws i None e h = absurd (false≢true h)
  names-lower ws i (Some r) e h =
      rw (rule-decoded f ws i r (sym e))
      (subst T (sym (verdict-lower i (every (λ x. ltb x (length ws)) r) (sorts (kind_at ws) r) (every (λ x. ltb x i) r) h)) tt)

  told-lower : (ws : List Record) (i : ℕ) → Ok true ≡ tested f ws i → T (every (λ x. ltb x i) (rule (rules_in f ws) i))
  unfolding is_lower
  told-lower ws i e = names-lower ws i (decode f (record_in ws i)) refl (ap is_lower (sym e))

  -- rules below i pass, and where the flag is set name only lower ones
  pub record Tests (ws : List Record) (n : ℕ) (lower : Bool) (i : ℕ) : Type 0 where
    pub on : (last : Result Unit Refusal) → rules_judged f ws last 0 n ≡ rules_judged f ws last i (n - i)
    pub below : lower ≡ true → (k : ℕ) → k < i → T (every (λ x. ltb x k) (rule (rules_in f ws) k))

  module _ {ws : List Record} {n i : ℕ} {l : Bool} (P : Tests ws n l i) (u : i < n) where
    pub tests-more : (lower : Bool) → Ok lower ≡ tested f ws i → Tests ws n (l && lower) (i + 1)
    tests-more lower e =
        record {
          on = λ last. P.on last ∙ rules-fine f ws last n i u (fine f ws i lower e);
          below = λ h k v.
              let (before, here) = (and-eq-true_iff l lower).0 h in
              elim (dec_lt k i) as (λ (d : Dec (k < i)). T (every (λ x. ltb x k) (rule (rules_in f ws) k))) [
                | yes q ↦ P.below before k q
                | no q ↦ let m : k ≡ i = omega arith in rw m (told-lower ws i (ap (λ (b : Bool). Ok b) (sym here) ∙ e))
              ];
        }

  -- the answers
  module _ {ws : List Record} {n : ℕ} (long : length ws ≡ n) where
    passed : {l : Bool} {i : ℕ} → Tests ws n l i → n ≤ i → i ≤ n → Passed f ws
    passed {l} {i} P a b last = let e : i ≡ n = omega arith in rw long (P.on last ∙ rw e (rules-none f ws last n))

    pub all-pass : {i : ℕ} (l : Bool) → Tests ws n l i → n ≤ i → i ≤ n → Tells f ws (Ok l)
    unfolding Tells
    all-pass true P a b = (passed P a b, λ k u. P.below refl k (omega (arith, length-rules_in f ws)))
    all-pass false P a b = passed P a b

    pub one-refused : {l : Bool} {i : ℕ} {why : Refusal} → Tests ws n l i → i < n → Err why ≡ tested f ws i → Tells f ws (Err why)
    unfolding Tells
    one-refused {i = i} {why} P u e = λ last. rw long (P.on last ∙ rules-refused f ws last n i u why (not-fine f ws i why e))
