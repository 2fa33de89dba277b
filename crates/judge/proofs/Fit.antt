-- What records have that are judged fine. The judgement is the last of a row of tests, so each of them passed: each record decodes, names
-- rules in range and has the right sorts, and no rule reaches itself, so the rules are sound, a rule's rank being the number of rules that
-- it reaches. Assumes nothing.
use Prim.Native.Nat.{ℕ, zero, suc, ◌+◌, ◌≤◌, ◌<◌}
use mathlib.Core.Bool.{Bool, true, false, cond, ◌&&◌, and-eq-true_iff}
use mathlib.Core.List.{List}
use Rattle.std.specs.Prelude.{Option, None, Some, Result, Ok, Err}
use Rattle.rule.specs.declared.Rule.{Rule}
use mathlib.Core.Path.{◌≡◌, refl, sym, subst}
use mathlib.Core.Logic.{⊎_elim}
use native.Mathlib.Nat.{eq-or-lt_of_le}
use native.Mathlib.Omega.{arith}
use lib.Dec.{T, ltb}
use lib.ListN.{length}
use borrow.Author.Tests.{ltb-true}
use Rattle.record.specs.declared.Format.{Format}
use Rattle.refusal.specs.declared.Refusal.{Refusal}
use Rattle.record.specs.declared.Record.{Record}
use Rattle.rule.specs.Rule.{decode, every, sorts, closed, rules_in}
use Rattle.record.specs.Records.{record_in, kind_at}
use Rattle.rule.specs.Sound.{Sound, Closed}
use Rattle.rule.proofs.Rules.{Named, length-rules_in, kinds, named-ranged, named-sound}
use Rattle.reach.specs.Reaches.{lowest_cycle}
use Rattle.reach.specs.Order.{Ranged, Acyclic, rank}
use Rattle.reach.proofs.Acyclic.{rank_falls, rank_below}
use Rattle.reach.proofs.Lowest.{lowest-none}
use Rattle.judge.specs.Judge.{names_judged, rule_judged, and_then, rules_judged, cycle_judged, start_judged, judged}
use Rattle.judge.specs.Tested.{Passed}

-- ---- tests that passed
pub fine-passed : (b : Bool) (x : Result Unit Refusal) (e : Refusal) → cond b x (Err e) ≡ Ok tt → (b ≡ true) × (x ≡ Ok tt)
fine-passed true x e h = (refl, h)
fine-passed false x e h = let z : ◌≡◌ {A = ℕ} 0 1 = cc in absurd (omega arith)

pub and_then-fine : (a b : Result Unit Refusal) → and_then a b ≡ Ok tt → (a ≡ Ok tt) × (b ≡ Ok tt)
unfolding and_then
and_then-fine (Ok _) b h = (refl, h)
and_then-fine (Err e) b h = let z : ◌≡◌ {A = ℕ} 0 1 = cc in absurd (omega arith)

pub is-test : {b : Bool} → b ≡ true → T b
is-test e = subst T (sym e) tt

-- the judgement of each rule
named : (ws : List Record) (i : ℕ) (d : Option Rule) → names_judged ws i d ≡ Ok tt → Named ws i d
unfolding names_judged
named ws i None h = let z : ◌≡◌ {A = ℕ} 0 1 = cc in absurd (omega arith)
named ws i (Some r) h =
    let p = fine-passed (every (λ x. ltb x (length ws)) r) (cond (sorts (kind_at ws) r) (Ok tt) (Err (Refusal.WrongSort i))) (Refusal.NoRule i) h in
    let q = fine-passed (sorts (kind_at ws) r) (Ok tt) (Refusal.WrongSort i) p.1 in
    record { means = r; decodes = refl; ranged = is-test p.0; sorted = is-test q.0 }

module _ (f : Format) where
  -- m rules from i on, and what follows them
  rules-fine : (ws : List Record) (last : Result Unit Refusal) (m i : ℕ)
      → rules_judged f ws last i m ≡ Ok tt
      → ((k : ℕ) → i ≤ k → k < i + m → rule_judged f ws k ≡ Ok tt) × (last ≡ Ok tt)
  unfolding rules_judged
  rules-fine ws last zero i h = (λ k l u. absurd (omega arith), h)
  rules-fine ws last (suc m) i h =
      let p = and_then-fine (rule_judged f ws i) (rules_judged f ws last (suc i) m) h in
      let q = rules-fine ws last m (suc i) p.1 in
      (λ k l u. ⊎_elim (λ e. rw e at p.0) (λ g. q.0 k g (omega arith)) (eq-or-lt_of_le l), q.1)

  -- ---- what passed
  pub record Fit (ws : List Record) (start : ℕ) : Type 0 where
    pub each : (i : ℕ) → i < length ws → Named ws i (decode f (record_in ws i))
    pub ranged : Ranged (rules_in f ws)
    pub acyclic : Acyclic (rules_in f ws)
    pub sound : Sound (rules_in f ws) (rank (rules_in f ws))
    pub ends : Closed (rules_in f ws) start

  fit-start : (ws : List Record) (start : ℕ) → ((i : ℕ) → i < length ws → Named ws i (decode f (record_in ws i))) → start_judged ws start ≡ Ok tt → Closed (rules_in f ws) start
  unfolding start_judged
  fit-start ws start each h =
      let p = fine-passed (ltb start (length ws) && closed (kind_at ws start)) (Ok tt) Refusal.Start h in
      let q = (and-eq-true_iff (ltb start (length ws)) (closed (kind_at ws start))).0 p.0 in
      record {
        below = omega (arith, length-rules_in f ws, ltb-true start (length ws) q.0);
        closed_kind = rw (← kinds f ws each) (is-test q.1);
      }

  -- rules that pass 4 to 6
  pub passed-each : (ws : List Record) → Passed f ws → (i : ℕ) → i < length ws → Named ws i (decode f (record_in ws i))
  unfolding rule_judged
  passed-each ws h i l = named ws i (decode f (record_in ws i)) ((rules-fine ws (Ok tt) (length ws) 0 (h (Ok tt))).0 i (omega arith) (omega arith))

  pub passed-ranged : (ws : List Record) → Passed f ws → Ranged (rules_in f ws)
  passed-ranged ws h = named-ranged f ws (passed-each ws h)

  cycle-fine : (x : Option ℕ) (later : Result Unit Refusal) → cycle_judged x later ≡ Ok tt → (x ≡ None) × (later ≡ Ok tt)
  unfolding cycle_judged
  cycle-fine None later h = (refl, h)
  cycle-fine (Some r) later h = let z : ◌≡◌ {A = ℕ} 0 1 = cc in absurd (omega arith)

  pub fine-fit : (ws : List Record) (start : ℕ) → judged f ws start ≡ Ok tt → Fit ws start
  unfolding judged rule_judged
  fine-fit ws start h =
      let p = rules-fine ws (cycle_judged (lowest_cycle (rules_in f ws)) (start_judged ws start)) (length ws) 0 h in
      let each : (i : ℕ) → i < length ws → Named ws i (decode f (record_in ws i)) = λ i l. named ws i (decode f (record_in ws i)) (p.0 i (omega arith) (omega arith)) in
      let q = cycle-fine (lowest_cycle (rules_in f ws)) (start_judged ws start) p.1 in
      let ranged : Ranged (rules_in f ws) = named-ranged f ws each in
      let acyclic : Acyclic (rules_in f ws) = (lowest-none (rules_in f ws) ranged).0 q.0 in
      record {
        each = each;
        ranged = ranged;
        acyclic = acyclic;
        sound = named-sound f ws each (rank (rules_in f ws)) (rank_falls (rules_in f ws) ranged acyclic) (rank_below (rules_in f ws) ranged acyclic);
        ends = fit-start ws start each q.1;
      }
