-- One turn of the building: the row of the rule at place i of the order is made from the rows of the rules before it, since all that it
-- names stand there. Nothing else changes, and the rules stay. Assumes nothing.
use Prim.Native.Nat.{ℕ, ◌+◌, ◌*◌, ◌^◌, ◌≤◌, ◌<◌}
use native.Mathlib.Omega.{arith}
use native.Mathlib.Decide.{dec_lt}
use mathlib.Core.Path.{◌≡◌, sym, ap, ◌∙◌}
use mathlib.Core.List.{List}
use mathlib.Core.Logic.{inl}
use lib.ListN.{length, get_or}
use Rattle.rule.specs.declared.Rule.{Rule}
use Rattle.rule.specs.Sound.{rule, Sound}
use Rattle.forest.proofs.Unfold.{named-below}
use Rattle.rule.specs.Names.{Names}
use Rattle.reach.specs.Order.{Orders}
use Rattle.facts_build.specs.declared.RuleFacts.{RuleFacts}
use Rattle.work_rows.specs.Rows.{row_length, own_end, rule_in, Holds, Within, Beyond, first_rules}
use Rattle.facts.specs.Facts.{facts_end, FactsHeld, Below, Built}
use Rattle.facts_build.specs.RuleFacts.{put_rule_facts, rule_facts_of}
use Rattle.facts.specs.Build.{Ready}
use Rattle.work_rows.proofs.Rows.{within_none, within_both, within_wider}
use Rattle.work_rows.specs.Order.{order_in}
use Rattle.work_rows.proofs.Kept.{first_holds}
use Rattle.work_rows.proofs.Order.{order-kept}
use Rattle.facts_build.proofs.Written.{SmallFacts, within-put_rule_facts, rule_facts_in-put_rule_facts, same-rule}
use Rattle.facts_build.proofs.Held.{facts-held-none, facts-held-same, facts-held-more, facts-true, facts-held-reads}

-- rule r stands at one of the first i places of the order o
pub record Early (o : List ℕ) (i r : ℕ) : Type 0 where
  pub place : ℕ
  pub before : place < i
  pub there : get_or o place 0 ≡ r

early-none : (o : List ℕ) (r : ℕ) → Early o 0 r → ⊥
early-none o r d = let b = d.before in omega arith

early-more : {o : List ℕ} {i r : ℕ} → Early o i r → Early o (i + 1) r
early-more d = record { place = d.place; before = let b = d.before in omega arith; there = d.there }

early-less : {o : List ℕ} {i r : ℕ} → Early o (i + 1) r → (r ≡ get_or o i 0 → ⊥) → Early o i r
early-less {o} {i} {r} d other =
    elim (dec_lt d.place i) as (λ (z : Dec (d.place < i)). Early o i r) [
      | yes b ↦ record { place = d.place; before = b; there = d.there }
      | no b ↦ let c = d.before in
          let e : d.place ≡ i = omega arith in
          absurd (other (sym d.there ∙ ap (λ (k : ℕ). get_or o k 0) e))
    ]

-- n rows hold the rules R, those at the first i places what is true of them, and nothing beyond the n rows has changed
pub record BuiltTo (R : List Rule) (o : List ℕ) (n i : ℕ) (s t : List ℕ) : Type 0 where
  pub holds : Holds R t n
  pub facts_held : FactsHeld R (Early o i) t
  pub beyond : Beyond n s t

-- at first no row is true
pub built-none : (s o : List ℕ) (n : ℕ) → BuiltTo (first_rules s n) o n 0 s s
built-none s o n =
    record {
      holds = first_holds s n;
      facts_held = facts-held-none (first_rules s n) (Early o 0) s (early-none o);
      beyond = within_none 0 (row_length * n) s;
    }

-- the order stands behind the rows, so it stays
pub built-order : {R : List Rule} {n i r : ℕ} {s t : List ℕ} (j : ℕ) → BuiltTo R (order_in s n) n i s t → r ≡ get_or (order_in t n) j 0 → r ≡ get_or (order_in s n) j 0
built-order {n = n} j B e = e ∙ ap (λ (o : List ℕ). get_or o j 0) (order-kept B.beyond n (inl (omega arith)))

-- the rule at a place is one of the rules
pub built-below : {R : List Rule} {o : List ℕ} {n i r : ℕ} → Orders R o → length R ≡ n → i < n → r ≡ get_or o i 0 → r < n
built-below {i = i} O count l at = let b = O.inside i (omega arith) in omega arith

-- in an order of the rules, places are those of rules, and what a rule names stands before it
module _ {R : List Rule} {rank : ℕ → ℕ} {o : List ℕ} (S : Sound R rank) (O : Orders R o) where
  early-range : (i : ℕ) → i ≤ length R → (r : ℕ) → Early o i r → r < length R
  early-range i l r d = let b = d.before in rw (sym d.there) (O.inside d.place (omega arith))

  place-early : (i r : ℕ) → r < length R → O.place r < i → Early o i r
  place-early i r l b = record { place = O.place r; before = b; there = O.there r l }

  named-early : (i r k : ℕ) → i < length R → r ≡ get_or o i 0 → Names (rule R r) k → Early o i k
  named-early i r k l at m =
      let below : r < length R = rw at (O.inside i l) in
      let here : O.place r ≡ i = ap O.place at ∙ O.once i l in
      let f : O.place k < O.place r = O.after r k below m in
      place-early i k (named-below S r k below m) (omega arith)

  early-closed : (i : ℕ) → i ≤ length R → (r k : ℕ) → Early o i r → Names (rule R r) k → Early o i k
  early-closed i l r k d m =
      let b = d.before in
      let e : Early o d.place k = named-early d.place r k (omega arith) (sym d.there) m in
      let f = e.before in
      record { place = e.place; before = omega arith; there = e.there }

  -- after the last place all rows are true
  pub built-all : {n : ℕ} {s t : List ℕ} → length R ≡ n → BuiltTo R o n n s t → Built R n s t
  built-all {n} {s} {t} count B =
      record {
        holds = B.holds;
        facts_held =
            facts-held-same R (Early o n) (Below n) t B.facts_held
            (λ r d. let b = early-range n (omega arith) r d in omega arith)
            (λ r d. let p = O.placed r (omega arith) in place-early n r (omega arith) (omega arith));
        beyond = B.beyond;
      }

  module _ {n i r : ℕ} {s t : List ℕ} (B : BuiltTo R o n i s t) (count : length R ≡ n) (few : n < 2 ^ 16) (i-below : i < n)
      (long : row_length * n ≤ length s) (at : r ≡ get_or o i 0) where
    this : r < length R
    this = rw at (O.inside i (omega arith))

    in_range : (k : ℕ) → Early o i k → k < length R
    in_range = early-range i (omega arith)

    closed : (k j : ℕ) → Early o i k → Names (rule R k) j → Early o i j
    closed = early-closed i (omega arith)

    named : (k : ℕ) → Names (rule R r) k → Early o i k
    named k m = named-early i r k (omega arith) at m

    -- what the row is made from is there
    pub built-ready : (x : Rule) → x ≡ rule_in t r → Ready x t
    unfolding Holds
    built-ready x e =
        let l = this in
        rw (e ∙ B.holds r (omega arith))
        (record { reads = λ k m. facts-held-reads S (Early o i) in_range closed t B.facts_held (omega arith) k (named k m) })

    -- one more row is true after it is written
    pub built-more : (x : Rule) (e : RuleFacts) (u : List ℕ) → x ≡ rule_in t r → e ≡ rule_facts_of t r x → SmallFacts e → u ≡ put_rule_facts t r e → BuiltTo R o n (i + 1) s u
    unfolding Holds
    built-more x e u read made small written =
        let l = this in
        let same = B.beyond.same_length in
        let frame : Within (row_length * r + own_end) (row_length * r + facts_end) t u = rw written (within-put_rule_facts t r e) in
        let kept-length = frame.same_length in
        record {
          holds = λ k below. same-rule r frame k ∙ B.holds k below;
          facts_held =
              facts-held-more R (Early o i) (Early o (i + 1)) t u r e B.facts_held (λ k d. early-more d)
              (λ k d other. early-less d (λ q. other (q ∙ sym at)))
              (rw (made ∙ ap (rule_facts_of t r) (read ∙ B.holds r (omega arith)))
              (facts-true S (Early o i) in_range closed t B.facts_held (Early o (i + 1)) (λ k d. early-more d) r
              (record { place = i; before = omega arith; there = sym at }) this named))
              (rw written (rule_facts_in-put_rule_facts t r e (omega arith) small))
              frame
              (λ k d. let b = early-range (i + 1) (omega arith) k d in omega arith);
          beyond = within_both B.beyond (within_wider 0 (row_length * n) (omega arith) (omega arith) frame);
        }
