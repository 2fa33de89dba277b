-- Laws of the judgement of rules, each for one step of the code: what one rule's test comes to, one turn of the loop over rules, and the
-- start. Each holds by the clauses of the definition that it is about. Assumes nothing.
use Rattle.std.specs.Prelude.{Result, Ok, Err, Option, Some, None}
use Prim.Native.Nat.{ℕ, suc, ◌+◌, ◌-◌, ◌≤◌, ◌<◌}
use mathlib.Core.Path.{◌≡◌, refl, sym, ap, ◌∙◌}
use mathlib.Core.Bool.{Bool, true, false, cond}
use mathlib.Core.List.{List}
use native.Mathlib.Omega.{arith}
use borrow.Author.Tests.{le-ltb, lt-ltb}
use lib.Dec.{ltb}
use Rattle.record.specs.declared.Format.{Format}
use Rattle.refusal.specs.declared.Refusal.{Refusal}
use Rattle.record.specs.declared.Record.{Record}
use Rattle.rule.specs.declared.Rule.{Rule}
use Rattle.rule.specs.Rule.{decode, whole, every, sorts, closed}
use lib.ListN.{length}
use Rattle.record.specs.Records.{records_from, record_in, kind_at}
use Rattle.record.proofs.Records.{records-length}
use Rattle.judge.specs.Tested.{verdict, tested_of, tested}
use Rattle.judge.specs.Judge.{names_judged, rule_judged, rules_judged, and_then, start_judged}

module _ (f : Format) where
  -- the test of one rule, by what its record means
  tested-whole : (ws : List Record) (i : ℕ) (b : Bool) (r : Rule)
      → tested_of ws i (whole b r) ≡ verdict i b (every (λ x. ltb x (length ws)) r) (sorts (kind_at ws) r) (every (λ x. ltb x i) r)
  unfolding tested_of verdict whole
  tested-whole ws i true r = refl
  tested-whole ws i false r = refl

  pub tested-as : (s : List ℕ) (first n i : ℕ) {w : Record} (b : Bool) (r : Rule) → w ≡ record_in (records_from f s first n) i → decode f w ≡ whole b r
      → tested f (records_from f s first n) i ≡ verdict i b (every (λ x. ltb x n) r) (sorts (kind_at (records_from f s first n)) r) (every (λ x. ltb x i) r)
  tested-as s first n i b r read means = let ws = records_from f s first n in
      ap (λ (v : Record). tested_of ws i (decode f v)) (sym read) ∙ ap (tested_of ws i) means ∙ tested-whole ws i b r
      ∙ ap (λ (m : ℕ). verdict i b (every (λ x. ltb x m) r) (sorts (kind_at ws) r) (every (λ x. ltb x i) r)) (records-length f s first n)

  pub tested-none : (ws : List Record) (i : ℕ) {w : Record} → w ≡ record_in ws i → decode f w ≡ None → tested f ws i ≡ Err (Refusal.Malformed i)
  unfolding tested_of
  tested-none ws i read means = ap (λ (v : Record). tested_of ws i (decode f v)) (sym read) ∙ ap (tested_of ws i) means

  -- what the test says of the judgement, and of lower rules
  judged-as : Result Bool Refusal → Result Unit Refusal
  judged-as (Ok lower) = Ok tt
  judged-as (Err r) = Err r

  verdict-judged : (i : ℕ) (a b l : Bool)
      → judged-as (verdict i true a b l) ≡ cond a (cond b (Ok tt) (Err (Refusal.WrongSort i))) (Err (Refusal.NoRule i))
  unfolding judged-as verdict
  verdict-judged i true true l = refl
  verdict-judged i true false l = refl
  verdict-judged i false b l = refl

  names-judged : (ws : List Record) (i : ℕ) (d : Option Rule) → judged-as (tested_of ws i d) ≡ names_judged ws i d
  unfolding judged-as tested_of names_judged
  names-judged ws i None = refl
  names-judged ws i (Some r) = verdict-judged i (every (λ x. ltb x (length ws)) r) (sorts (kind_at ws) r) (every (λ x. ltb x i) r)

  rule-tested : (ws : List Record) (i : ℕ) {t : Result Bool Refusal} → t ≡ tested f ws i → rule_judged f ws i ≡ judged-as t
  unfolding rule_judged
  rule-tested ws i e = sym (names-judged ws i (decode f (record_in ws i))) ∙ ap judged-as (sym e)

  pub fine : (ws : List Record) (i : ℕ) (lower : Bool) → Ok lower ≡ tested f ws i → rule_judged f ws i ≡ Ok tt
  unfolding judged-as
  fine ws i lower e = rule-tested ws i e

  pub not-fine : (ws : List Record) (i : ℕ) (why : Refusal) → Err why ≡ tested f ws i → rule_judged f ws i ≡ Err why
  unfolding judged-as
  not-fine ws i why e = rule-tested ws i e

  -- the loop over rules: a rule that is fine leaves the answer to the rules after it, the first refusal is the answer
  module _ (ws : List Record) (last : Result Unit Refusal) (n i : ℕ) (below : i < n) where
    rules-next : rules_judged f ws last i (n - i) ≡ and_then (rule_judged f ws i) (rules_judged f ws last (i + 1) (n - (i + 1)))
    unfolding rules_judged
    rules-next =
        let more : n - i ≡ suc (n - (i + 1)) = omega arith in
        let next : suc i ≡ i + 1 = omega arith in
        rw (more, next)

    pub rules-fine : rule_judged f ws i ≡ Ok tt → rules_judged f ws last i (n - i) ≡ rules_judged f ws last (i + 1) (n - (i + 1))
    unfolding and_then
    rules-fine fine = rules-next ∙ rw fine

    pub rules-refused : (r : Refusal) → rule_judged f ws i ≡ Err r → rules_judged f ws last i (n - i) ≡ Err r
    unfolding and_then
    rules-refused r refused = rules-next ∙ rw refused

  pub rules-none : (ws : List Record) (last : Result Unit Refusal) (n : ℕ) → rules_judged f ws last n (n - n) ≡ last
  unfolding rules_judged
  rules-none ws last n = let none : n - n ≡ 0 = omega arith in rw none

  -- the start rule
  pub start-not-below : (s : List ℕ) (first n start : ℕ) → n ≤ start → start_judged (records_from f s first n) start ≡ Err Refusal.Start
  unfolding start_judged
  start-not-below s first n start high = rw (records-length f s first n, le-ltb start n high)

  pub start-closed : (s : List ℕ) (first n start : ℕ) (b : Bool) → start < n → closed (kind_at (records_from f s first n) start) ≡ b
      → start_judged (records_from f s first n) start ≡ cond b (Ok tt) (Err Refusal.Start)
  unfolding start_judged
  start-closed s first n start b low sort = rw (records-length f s first n, lt-ltb start n low, sort)
