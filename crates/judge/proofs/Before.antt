-- Before document 02 a rule named only lower ones: 5 was a name that isn't lower, and there was no 12. Rules that name only lower ones are
-- judged as they were then, and so what was accepted still is: all else that an operation answers goes by the judgement and by definitions
-- that have stayed. Assumes nothing.
use Rattle.std.specs.Prelude.{Result, Ok, Err, Option, Some, None}
use Rattle.rule.specs.declared.Rule.{Rule}
use Prim.Native.Nat.{ℕ, zero, suc, ◌+◌, ◌≤◌, ◌<◌}
use native.Mathlib.Nat.{eq-or-lt_of_le}
use native.Mathlib.Omega.{arith}
use mathlib.Core.Logic.{⊎_elim}
use mathlib.Core.Path.{◌≡◌, refl, ap₂, ◌∙◌}
use mathlib.Core.Bool.{Bool, true, false, cond}
use mathlib.Core.List.{List}
use lib.ListN.{length}
use lib.Dec.{T, ltb}
use Rattle.record.specs.declared.Format.{Format}
use Rattle.refusal.specs.declared.Refusal.{Refusal}
use Rattle.record.specs.declared.Record.{Record}
use Rattle.record.specs.Records.{record_in, kind_at}
use Rattle.rule.specs.Rule.{decode, every, sorts, rules_in}
use Rattle.rule.specs.Sound.{rule}
use Rattle.rule.proofs.Rules.{length-rules_in, rule-decoded}
use Rattle.reach.specs.Order.{Lower}
use Rattle.reach.proofs.Orders.{lower-ranged, lower-none}
use Rattle.judge.specs.Judge.{names_judged, rule_judged, and_then, rules_judged, cycle_judged, start_judged, judged}
use Rattle.judge.proofs.Fit.{fine-passed, and_then-fine, is-test}

module _ (f : Format) where
  -- refusals 4 to 7 as document 01 has them: "5: names a rule not lower"
  names_before : List Record → ℕ → Option Rule → Result Unit Refusal
  names_before ws i None = Err (Refusal.Malformed i)
  names_before ws i (Some r) =
      cond (every (λ x. ltb x i) r)
      (cond (sorts (kind_at ws) r) (Ok tt) (Err (Refusal.WrongSort i)))
      (Err (Refusal.NoRule i))

  rules_before : List Record → Result Unit Refusal → ℕ → ℕ → Result Unit Refusal
  rules_before ws last i zero = last
  rules_before ws last i (suc m) = and_then (names_before ws i (decode f (record_in ws i))) (rules_before ws last (suc i) m)

  pub judged_before : List Record → ℕ → Result Unit Refusal
  judged_before ws start = rules_before ws (start_judged ws start) 0 (length ws)

  -- a rule that names only lower ones
  two-tests : (a b : Bool) (x y : Result Unit Refusal) → T a → T b → cond a x y ≡ cond b x y
  two-tests true true x y s t = refl
  two-tests true false x y s t = absurd t
  two-tests false b x y s t = absurd s

  module _ (ws : List Record) (lower : Lower (rules_in f ws)) where
    names_same : (i : ℕ) → i < length ws → (d : Option Rule) → decode f (record_in ws i) ≡ d → names_judged ws i d ≡ names_before ws i d
    unfolding names_judged names_before
    names_same i l None e = refl
    names_same i l (Some r) e =
        let n = length-rules_in f ws in
        let l' : i < length (rules_in f ws) = omega arith in
        let means : rule (rules_in f ws) i ≡ r = rule-decoded f ws i r e in
        two-tests (every (λ x. ltb x (length ws)) r) (every (λ x. ltb x i) r) _ _
        (rw (means, n) at (lower-ranged (rules_in f ws) lower i l'))
        (rw means at (lower i l'))

    rules-same : (last : Result Unit Refusal) (i m : ℕ) → i + m ≡ length ws → rules_judged f ws last i m ≡ rules_before ws last i m
    unfolding rules_judged rule_judged rules_before
    rules-same last i zero e = refl
    rules-same last i (suc m) e =
        ap₂ and_then (names_same i (omega (arith, e)) (decode f (record_in ws i)) refl) (rules-same last (suc i) m (omega (arith, e)))

    pub lower-as-before : (start : ℕ) → judged f ws start ≡ judged_before ws start
    unfolding judged judged_before cycle_judged
    lower-as-before start = rw (lower-none (rules_in f ws) lower) (rules-same (start_judged ws start) 0 (length ws) (omega arith))

  -- what was accepted then names only lower rules
  names-lower : (ws : List Record) (i : ℕ) (d : Option Rule) → decode f (record_in ws i) ≡ d → names_before ws i d ≡ Ok tt → T (every (λ x. ltb x i) (rule (rules_in f ws) i))
  unfolding names_before
  names-lower ws i None e h = let z : ◌≡◌ {A = ℕ} 0 1 = cc in absurd (omega arith)
  names-lower ws i (Some r) e h =
      let p = fine-passed (every (λ x. ltb x i) r) (cond (sorts (kind_at ws) r) (Ok tt) (Err (Refusal.WrongSort i))) (Refusal.NoRule i) h in
      rw (rule-decoded f ws i r e) (is-test p.0)

  rules-lower : (ws : List Record) (last : Result Unit Refusal) (m i : ℕ) → rules_before ws last i m ≡ Ok tt
      → (k : ℕ) → i ≤ k → k < i + m → T (every (λ x. ltb x k) (rule (rules_in f ws) k))
  unfolding rules_before
  rules-lower ws last zero i h k l u = absurd (omega arith)
  rules-lower ws last (suc m) i h k l u =
      let p = and_then-fine (names_before ws i (decode f (record_in ws i))) (rules_before ws last (suc i) m) h in
      ⊎_elim (λ e. rw e at (names-lower ws i (decode f (record_in ws i)) refl p.0)) (λ g. rules-lower ws last m (suc i) p.1 k g (omega arith)) (eq-or-lt_of_le l)

  pub accepted-as-before : (ws : List Record) (start : ℕ) → judged_before ws start ≡ Ok tt → judged f ws start ≡ Ok tt
  unfolding judged_before
  accepted-as-before ws start h =
      lower-as-before ws (λ r l. let n = length-rules_in f ws in rules-lower ws (start_judged ws start) (length ws) 0 h r (omega arith) (omega arith)) start ∙ h
