-- Refusal 12, both ways: records are refused with 12 at r exactly when all their rules pass 4 to 6 and r is the lowest rule that reaches
-- itself. A rule's own refusals are 4 to 6 and the start's is 7, so 12 comes from the search alone. Assumes nothing.
use Prim.Native.Nat.{ℕ, zero, suc, ◌≤◌, ◌<◌}
use native.Mathlib.Omega.{arith}
use mathlib.Core.Path.{◌≡◌, refl, sym, ap, ◌∙◌}
use mathlib.Core.Bool.{Bool, true, false, cond, ◌&&◌}
use mathlib.Core.List.{List}
use mathlib.Core.Logic.{◌⊎◌, inl, inr, ⊎_elim, ◌↔◌}
use Rattle.std.specs.Prelude.{Option, None, Some, Result, Ok, Err}
use Rattle.rule.specs.declared.Rule.{Rule}
use lib.ListN.{length}
use lib.Dec.{ltb}
use Rattle.record.specs.declared.Format.{Format}
use Rattle.refusal.specs.declared.Refusal.{Refusal}
use Rattle.refusal.specs.Refusal.{number_of}
use Rattle.record.specs.declared.Record.{Record}
use Rattle.record.specs.Records.{record_in, kind_at}
use Rattle.rule.specs.Rule.{decode, every, sorts, closed, rules_in}
use Rattle.rule.proofs.Rules.{length-rules_in}
use Rattle.reach.specs.Reaches.{Reaches, lowest_cycle}
use Rattle.reach.proofs.Lowest.{lowest-some}
use Rattle.judge.specs.Judge.{names_judged, rule_judged, and_then, rules_judged, cycle_judged, start_judged, judged}
use Rattle.judge.specs.Tested.{Passed}
use Rattle.judge.proofs.Fit.{passed-ranged}

-- the number of a judgement's refusal, 0 for none
refused-with : Result Unit Refusal → ℕ
refused-with (Ok _) = 0
refused-with (Err e) = number_of e

tests-small : (i : ℕ) (a b : Bool) → refused-with (cond a (cond b (Ok tt) (Err (Refusal.WrongSort i))) (Err (Refusal.NoRule i))) ≤ 6
unfolding refused-with
tests-small i true true = omega arith
tests-small i true false = omega arith
tests-small i false b = omega arith

names-small : (ws : List Record) (i : ℕ) (d : Option Rule) → refused-with (names_judged ws i d) ≤ 6
unfolding names_judged refused-with
names-small ws i None = omega arith
names-small ws i (Some r) = tests-small i (every (λ x. ltb x (length ws)) r) (sorts (kind_at ws) r)

module _ (f : Format) where
  -- m rules from i on: all pass, or one is refused with at most 6
  abbrev Pass : List Record → ℕ → ℕ → Type 0
  Pass ws i m = (last : Result Unit Refusal) → rules_judged f ws last i m ≡ last

  abbrev Fail : List Record → ℕ → ℕ → Type 0
  Fail ws i m = (x : Result Unit Refusal) × (refused-with x ≤ 6) × (x ≡ Ok tt → ⊥) × ((last : Result Unit Refusal) → rules_judged f ws last i m ≡ x)

  not-fine : (e : Refusal) → ◌≡◌ {A = Result Unit Refusal} (Err e) (Ok tt) → ⊥
  not-fine e q = let z : ◌≡◌ {A = ℕ} 0 1 = cc in absurd (omega arith)

  one : (ws : List Record) (i m : ℕ) (x : Result Unit Refusal) → rule_judged f ws i ≡ x → refused-with x ≤ 6 → Pass ws (suc i) m ⊎ Fail ws (suc i) m → Pass ws i (suc m) ⊎ Fail ws i (suc m)
  unfolding rules_judged and_then
  one ws i m (Ok _) e small (inl p) = inl (λ last. rw e (p last))
  one ws i m (Ok _) e small (inr (x, s, q, h)) = inr (x, s, q, λ last. rw e (h last))
  one ws i m (Err r) e small rest = inr (Err r, small, not-fine r, λ last. rw e)

  split : (ws : List Record) (m i : ℕ) → Pass ws i m ⊎ Fail ws i m
  unfolding rules_judged rule_judged
  split ws zero i = inl (λ last. refl)
  split ws (suc m) i = one ws i m (rule_judged f ws i) refl (names-small ws i (decode f (record_in ws i))) (split ws m (suc i))

  -- what comes after the rules is refused with 12 at r exactly when the search finds r
  start_small : (ws : List Record) (start : ℕ) → refused-with (start_judged ws start) ≤ 7
  unfolding start_judged refused-with
  start_small ws start = go (ltb start (length ws) && closed (kind_at ws start))
    where
      go : (b : Bool) → refused-with (cond b (Ok tt) (Err Refusal.Start)) ≤ 7
      go true = omega arith
      go false = omega arith

  cycle-found : (x : Option ℕ) (later : Result Unit Refusal) (r : ℕ) → refused-with later ≤ 7 → cycle_judged x later ≡ Err (Refusal.Cycle r) → x ≡ Some r
  unfolding cycle_judged refused-with
  cycle-found None later r small h = let z : refused-with later ≡ 12 = ap refused-with h in absurd (omega arith)
  cycle-found (Some k) later r small h = cc

  pub cycle-exact : (ws : List Record) (start r : ℕ)
      → (judged f ws start ≡ Err (Refusal.Cycle r))
      ↔ (Passed f ws × (r < length ws) × Reaches (rules_in f ws) r r × ((k : ℕ) → k < r → Reaches (rules_in f ws) k k → ⊥))
  unfolding judged cycle_judged refused-with
  cycle-exact ws start r = (there, back)
    where
      last : Result Unit Refusal
      last = cycle_judged (lowest_cycle (rules_in f ws)) (start_judged ws start)

      there : rules_judged f ws last 0 (length ws) ≡ Err (Refusal.Cycle r)
          → Passed f ws × (r < length ws) × Reaches (rules_in f ws) r r × ((k : ℕ) → k < r → Reaches (rules_in f ws) k k → ⊥)
      there h = ⊎_elim (λ p. found p h) (λ g. absurd (other g h)) (split ws (length ws) 0)
        where
          found : Pass ws 0 (length ws) → rules_judged f ws last 0 (length ws) ≡ Err (Refusal.Cycle r)
              → Passed f ws × (r < length ws) × Reaches (rules_in f ws) r r × ((k : ℕ) → k < r → Reaches (rules_in f ws) k k → ⊥)
          found p h =
              let x : lowest_cycle (rules_in f ws) ≡ Some r = cycle-found (lowest_cycle (rules_in f ws)) (start_judged ws start) r (start_small ws start) (sym (p last) ∙ h) in
              let l = (lowest-some (rules_in f ws) (passed-ranged f ws p) r).0 x in
              (p, omega (arith, l.0, length-rules_in f ws), l.1, l.2)

          other : Fail ws 0 (length ws) → rules_judged f ws last 0 (length ws) ≡ Err (Refusal.Cycle r) → ⊥
          other (x, small, q, g) h = let z : refused-with x ≡ 12 = ap refused-with (sym (g last) ∙ h) in absurd (omega arith)

      back : Passed f ws × (r < length ws) × Reaches (rules_in f ws) r r × ((k : ℕ) → k < r → Reaches (rules_in f ws) k k → ⊥)
          → rules_judged f ws last 0 (length ws) ≡ Err (Refusal.Cycle r)
      back (p, l, c, n) =
          let x : lowest_cycle (rules_in f ws) ≡ Some r = (lowest-some (rules_in f ws) (passed-ranged f ws p) r).1 (omega (arith, l, length-rules_in f ws), c, n) in
          p last ∙ rw x
