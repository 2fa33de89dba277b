-- The pass over the rows, in the order kept behind them: where the rules at the first i places have their counts, the next one gets its own
-- from those of the rules that it names, which stand before it. Assumes nothing.
use Rattle.std.proofs.Common.{◌≡◌, ℕ, ◌+◌, ◌<◌, ◌≤◌, List, length, get_or, ap, ◌∙◌, arith}
use Rattle.rule.specs.declared.Rule.{Rule}
use Rattle.reach.proofs.Places.{AtFirst, first_more}
use Rattle.work_rows.specs.Rows.{rule_in}
use Rattle.work_rows.specs.Order.{order_end, order_in}
use Rattle.count_passes.proofs.Ordered.{at_place, place-below, named-below, before-named, at_all}
use Rattle.count_all.specs.declared.Counts.{Counts}
use Rattle.count_all.specs.Counts.{counts_of}
use Rattle.count_all.specs.Kept.{Keeps}
use Rattle.count_all.specs.Rows.{counts_at, RulesKept, OfRule, Readable, Passable, Countable, RowCounted, AllCounted}
use Rattle.count_all.proofs.Places.{kept-both, kept_rule_lem, kept-passable}

-- what a row's rule may read
pub countable-readable : {t : List ℕ} {n r : ℕ} {x : Rule} → Countable t n r → x ≡ rule_in t r → Readable t n x
countable-readable {n = n} {r = r} a e =
    record {
      room = omega (arith, a.passable.room);
      named = λ k m. named-below a.passable.ready r k a.below (rw e at m);
    }

-- f obeys the recurrence of counts
abbrev Recurs : List ℕ → ℕ → (ℕ → Counts) → Type 0
Recurs s n f = (r : ℕ) → r < n → f r ≡ counts_of f (rule_in s r)

-- rule k has its counts
abbrev Has : List ℕ → ℕ → (ℕ → Counts) → ℕ → Type 0
Has t n f k = (k < n) × Keeps (counts_at t n k) (f k)

-- the pass so far: the rules at the first i places have their counts
pub record Passing (n i : ℕ) (s t : List ℕ) : Type 0 where
  pub below : i ≤ n
  pub kept : RulesKept n s t
  pub passed : (f : ℕ → Counts) → Recurs s n f → AtFirst (order_in s n) i (Has t n f)

module _ {n i : ℕ} {s t : List ℕ} (a : Passable s n) (p : Passing n i s t) where
  pub passing-room : order_end n ≤ length t
  passing-room = (kept-passable p.kept a).ready.room

  pub passing-countable : {r j : ℕ} → r ≡ at_place t n j → j < n → Countable t n r
  passing-countable {r} {j} e below =
      let now : Passable t n = kept-passable p.kept a in
      record { passable = now; below = rw e (place-below now.ready j below) }

  -- the counts of the rule at the next place
  next-counts : {u : List ℕ} → i < n → RowCounted n (at_place s n i) t u → (f : ℕ → Counts) → Recurs s n f → Has u n f (at_place s n i)
  next-counts {u} below new f recurs =
      let r : ℕ = at_place s n i in
      let inside : r < n = place-below a.ready i below in
      let same : rule_in t r ≡ rule_in s r = kept_rule_lem p.kept r inside in
      let of_rule : OfRule t n (rule_in s r) new.counts = rw same at new.of_rule in (
        inside,
        rw (new.put.written, recurs r inside) (of_rule.keeps f (λ k m. (before-named a.ready (Has t n f) i below (p.passed f recurs) k m).1)),
      )

  pub passing-more : {r : ℕ} {u : List ℕ} → i < n → r ≡ at_place t n i → RowCounted n r t u → Passing n (i + 1) s u
  passing-more {r} {u} below e new₀ =
      let e' : r ≡ at_place s n i = e ∙ ap (λ (l : List ℕ). get_or l i 0) p.kept.order in
      let new : RowCounted n (at_place s n i) t u = rw e' at new₀ in
      record {
        below = omega arith;
        kept = kept-both p.kept new.put.kept;
        passed = λ f recurs.
            first_more (order_in s n) i (Has t n f) (Has u n f)
            (λ k ne h. (h.0, rw (new.put.others k h.0 ne) h.1))
            (next-counts below new f recurs) (p.passed f recurs);
      }

  pub passing-end : n ≤ i → AllCounted n s t
  passing-end past =
      let e : i ≡ n = omega (arith, p.below) in
      record {
        kept = p.kept;
        counts = λ f recurs r below. (at_all a.ready (Has t n f) (rw e at (p.passed f recurs)) r below).1;
      }
