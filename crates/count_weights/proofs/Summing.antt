-- The pass that gives each row its sum: it depends on those of the rules named, which come earlier in the order, and sums that are capped
-- first come to the same, capped; so the rows at the first places obey the recurrence, and the next row after it is written. The sums over
-- expressions obey it too. Assumes nothing.
use Prim.Native.Nat.{ℕ, ◌+◌, ◌≤◌, ◌<◌}
use native.Mathlib.Omega.{arith}
use mathlib.Core.Path.{◌≡◌, refl, sym, ap, ap₂, ◌∙◌}
use mathlib.Core.List.{List}
use lib.ListN.{length, get_or}
use Rattle.record.specs.Format.{word_length}
use Rattle.rule.specs.declared.Rule.{Rule}
use Rattle.rule.specs.Names.{Names, pair_one, pair_two, node_one, fill_one, fill_two, part_one, part_two, join_one, join_two}
use Rattle.reach.proofs.Places.{AtFirst, first_more}
use Rattle.forest.specs.Expression.{Expression, rhs}
use Rattle.work_rows.specs.Rows.{put_field, rule_in}
use Rattle.work_rows.specs.Order.{order_end, order_in}
use Rattle.count_capped.specs.Count.{capped, capped_sum, count_length}
use Rattle.count_capped.proofs.Capped.{capped-sum, capped-more}
use Rattle.count_passes.specs.Tally.{Ready, Readable, Unfolds, Besides}
use Rattle.count_passes.proofs.Column.{besides-both, besides-put, besides-rule, other_row, count-put}
use Rattle.count_passes.proofs.Ordered.{at_place, place-below, place-readable, before-named, at_all, order-besides, ready-besides}
use Rattle.count_weights.specs.Weights.{own_weight, named_sum, weight_in, at_sum, at_weight, sum_at, weight_at, sum_from}
use Rattle.count_weights.specs.Weights.{WeightColumn, SumRecur, Summed, Totalled}

-- where the rules named have their sums, capped, so has what they come to together
named-sums : (g f : ℕ → ℕ) (x : Rule) → ((k : ℕ) → Names x k → g k ≡ capped (f k)) → named_sum capped_sum g x ≡ capped (named_sum ◌+◌ f x)
unfolding named_sum
named-sums g f Rule.Empty h = refl
named-sums g f (Rule.Pair b c) h = ap₂ capped_sum (h b pair_one) (h c pair_two) ∙ sym (capped-sum (f b) (f c))
named-sums g f (Rule.Node a c) h = h c node_one
named-sums g f (Rule.Fill b c) h = ap₂ capped_sum (h b fill_one) (h c fill_two) ∙ sym (capped-sum (f b) (f c))
named-sums g f (Rule.Part a b c) h = ap₂ capped_sum (h b part_one) (h c part_two) ∙ sym (capped-sum (f b) (f c))
named-sums g f (Rule.Join b c) h = ap₂ capped_sum (h b join_one) (h c join_two) ∙ sym (capped-sum (f b) (f c))

-- a row's sum as it is written: the own weight, and the sum of the rules named
pub sum-put : (s : List ℕ) {u : List ℕ} (r : ℕ) {o m v : ℕ} {x : Rule} → x ≡ rule_in s r → o ≡ weight_at s r
    → m ≡ named_sum capped_sum (sum_at s) x → v ≡ capped_sum o m → u ≡ put_field count_length s r at_sum v
    → u ≡ put_field count_length s r at_sum (sum_from s r)
sum-put s r q e d y z = z ∙ rw (y, d, e, q)

-- row k has its sum
abbrev Has : List ℕ → (ℕ → ℕ) → ℕ → Type 0
Has t f k = sum_at t k ≡ capped (f k)

-- the pass so far: the rows at the first i places of the order have their sums
pub record Passing (n i : ℕ) (s t : List ℕ) : Type 0 where
  pub below : i ≤ n
  pub besides : Besides at_sum count_length n s t
  pub column : (f : ℕ → ℕ) → SumRecur s n f → AtFirst (order_in s n) i (Has t f)

module _ {n i : ℕ} {s t : List ℕ} (g : Ready s n) (p : Passing n i s t) where
  -- the order is still there, and a row may be given its sum whatever its place
  passing-ready : Ready t n
  passing-ready = ready-besides p.besides (omega arith) g

  pub passing-room : order_end n ≤ length t
  passing-room = passing-ready.room

  pub passing-readable : {r j : ℕ} → r ≡ at_place t n j → j < n → Readable t r
  passing-readable {j = j} e below = rw e (place-readable passing-ready j below)

  -- the sum of the rule at the next place, from those of the rules that it names
  next-sum : (f : ℕ → ℕ) → SumRecur s n f → i < n → sum_from t (at_place s n i) ≡ capped (f (at_place s n i))
  next-sum f recurs below =
      let r : ℕ = at_place s n i in
      let same : weight_at t r ≡ weight_at s r = p.besides.fields word_length at_weight r (omega arith) (λ h. omega arith) in
      let sums = named-sums (sum_at t) f (rule_in s r) (before-named g (Has t f) i below (p.column f recurs)) in
      rw (besides-rule p.besides (omega arith) r, same, sums, recurs r (place-below g i below))
      (sym (capped-more (weight_at s r) (named_sum ◌+◌ f (rule_in s r))))

  -- the row at the next place
  pub passing-more : {r : ℕ} {u : List ℕ} → i < n → r ≡ at_place t n i → u ≡ put_field count_length t r at_sum (sum_from t r)
      → Passing n (i + 1) s u
  passing-more {r} {u} below e₀ new =
      let e : r ≡ at_place s n i = e₀ ∙ ap (λ (l : List ℕ). get_or l i 0) (order-besides p.besides) in
      let at : ℕ = at_place s n i in
      let inside : at < n = place-below g i below in
      let room : order_end n ≤ length t = passing-room in
      rw (new, e)
      (record {
        below = omega arith;
        besides = besides-both p.besides (besides-put count_length t at at_sum (sum_from t at) n inside (omega arith));
        column = λ f recurs.
            first_more (order_in s n) i (Has t f) (Has (put_field count_length t at at_sum (sum_from t at)) f)
            (λ k ne h. other_row count_length t at at_sum (sum_from t at) k (omega arith) ne ∙ h)
            (count-put t at at_sum (sum_from t at) (f at) (omega arith) (omega arith) (next-sum f recurs below)) (p.column f recurs);
      })

  pub passing-end : n ≤ i → Summed n s t
  passing-end past =
      let e : i ≡ n = omega (arith, p.below) in
      record { besides = p.besides; column = λ f recurs. at_all g (Has t f) (rw e at (p.column f recurs)) }

-- the sums over expressions obey the recurrence
weight-rhs : (w : ℕ → ℕ) (r : ℕ) (x : Rule) (E : ℕ → Expression)
    → weight_in w (rhs r x E) ≡ own_weight w x + named_sum ◌+◌ (λ k. weight_in w (E k)) x
unfolding weight_in rhs own_weight named_sum
weight-rhs w r Rule.Empty E = refl
weight-rhs w r (Rule.Pair b c) E = omega arith
weight-rhs w r (Rule.Node a c) E = refl
weight-rhs w r (Rule.Fill b c) E = omega arith
weight-rhs w r (Rule.Part a b c) E = refl
weight-rhs w r (Rule.Join b c) E = omega arith

sums-recur : (w : ℕ → ℕ) (s : List ℕ) (n : ℕ) (E : ℕ → Expression) → WeightColumn w s n → Unfolds s n E
    → SumRecur s n (λ k. weight_in w (E k))
sums-recur w s n E own u k inside = rw (u.unfolds k inside, own k inside) (weight-rhs w k (rule_in s k) E)

-- so a row's sum is its rule's
pub totalled : {n r : ℕ} {c : ℕ} {s t : List ℕ} → r < n → Summed n s t → c ≡ sum_at t r → Totalled n r c s t
totalled {n} {r} {c} {s} below p e =
    record {
      besides = p.besides;
      total = λ w own E u. e ∙ p.column (λ k. weight_in w (E k)) (sums-recur w s n E own u) r below;
    }
