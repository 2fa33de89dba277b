-- The pass that gives each row its two counts: they depend on those of the rules named, which come earlier in the order, and counts that
-- are capped first come to the same, capped; so the rows at the first places obey the recurrences, and the next row after it is written.
-- Assumes nothing.
use Prim.Native.Nat.{ℕ, ◌+◌, ◌*◌, ◌≤◌, ◌<◌}
use native.Mathlib.Omega.{arith}
use mathlib.Core.Path.{◌≡◌, sym, ap, ◌∙◌}
use mathlib.Core.List.{List}
use lib.ListN.{length, get_or}
use Rattle.rule.specs.declared.Rule.{Rule}
use Rattle.rule.specs.Names.{Names}
use Rattle.reach.proofs.Places.{AtFirst, first_more}
use Rattle.work_rows.specs.Rows.{row_length, put_field, rule_in}
use Rattle.work_rows.specs.Order.{order_end, order_in}
use Rattle.work_rows.proofs.Rows.{length-put_field, field-other}
use Rattle.count_capped.specs.Count.{capped, capped_sum, count_length}
use Rattle.count_passes.specs.Tally.{Ready, Readable, Besides}
use Rattle.count_passes.proofs.Column.{besides-both, besides-wider, besides-put, besides-rule, other_row, count-put}
use Rattle.count_passes.proofs.Ordered.{at_place, place-below, place-readable, before-named, at_all, order-besides, ready-besides}
use Rattle.compare_tokens.specs.Nodes.{before_of, after_of}
use Rattle.compare_tokens.proofs.Nodes.{before-capped, after-capped, before_same, after_same}
use Rattle.compare_nodes.specs.Columns.{at_before, at_after, before_at, after_at, before_from, after_from, NodesPut, NodesRecur, Noded}

-- row k has both counts
abbrev Counted : List ℕ → (ℕ → ℕ) → (ℕ → ℕ) → ℕ → Type 0
Counted t b a k = (before_at t k ≡ capped (b k)) × (after_at t k ≡ capped (a k))

-- the counts of a rule, from rows that have those of the rules that it names
row_counts : (t : List ℕ) (b a : ℕ → ℕ) (x : Rule) → ((k : ℕ) → Names x k → Counted t b a k)
    → (before_from t x ≡ capped (before_of ◌+◌ b a x)) × (after_from t x ≡ capped (after_of ◌+◌ b a x))
row_counts t b a x h = (
  before_same capped_sum (before_at t) (after_at t) (λ k. capped (b k)) (λ k. capped (a k)) x h ∙ sym (before-capped b a x),
  after_same capped_sum (before_at t) (after_at t) (λ k. capped (b k)) (λ k. capped (a k)) x h ∙ sym (after-capped b a x),
)

-- both counts written to row r: nothing else changes, every other row keeps its counts, and r has these
module _ (t : List ℕ) (r v w : ℕ) where
  twice : List ℕ
  twice = put_field count_length (put_field count_length t r at_before v) r at_after w

  twice-besides : (n : ℕ) → r < n → Besides at_before (count_length + count_length) n t twice
  unfolding twice
  twice-besides n below =
      besides-both
      (besides-wider at_before (count_length + count_length) (omega arith) (omega arith) (besides-put count_length t r at_before v n below (omega arith)))
      (besides-wider at_before (count_length + count_length) (omega arith) (omega arith) (besides-put count_length (put_field count_length t r at_before v) r at_after w n below (omega arith)))

  twice-other : (b a : ℕ → ℕ) (k : ℕ) → (k ≡ r → ⊥) → Counted t b a k → Counted twice b a k
  unfolding twice
  twice-other b a k ne h = (
    field-other count_length count_length (put_field count_length t r at_before v) r at_after w k at_before (λ l. omega arith)
        ∙ other_row count_length t r at_before v k (omega arith) ne
        ∙ h.0,
    other_row count_length (put_field count_length t r at_before v) r at_after w k (omega arith) ne
        ∙ field-other count_length count_length t r at_before v k at_after (λ l. omega arith)
        ∙ h.1,
  )

  twice-here : (b a : ℕ → ℕ) → row_length * (r + 1) ≤ length t → v ≡ capped (b r) → w ≡ capped (a r) → Counted twice b a r
  unfolding twice
  twice-here b a room p q = (
    field-other count_length count_length (put_field count_length t r at_before v) r at_after w r at_before (λ l. absurd (omega arith))
        ∙ count-put t r at_before v (b r) room (omega arith) p,
    count-put (put_field count_length t r at_before v) r at_after w (a r) (let l = length-put_field count_length t r at_before v in omega arith) (omega arith) q,
  )

pub nodes-put : {r v w : ℕ} {x : Rule} (s : List ℕ) {t u : List ℕ} → x ≡ rule_in s r → v ≡ before_from s x → w ≡ after_from s x
    → t ≡ put_field count_length s r at_before v → u ≡ put_field count_length t r at_after w → NodesPut r s u
nodes-put s q e d y z = record { writes = z ∙ rw (y, e, d, q) }

-- the pass so far: the rows at the first i places of the order have their counts
pub record Passing (n i : ℕ) (s t : List ℕ) : Type 0 where
  pub below : i ≤ n
  pub besides : Besides at_before (count_length + count_length) n s t
  pub columns : (b a : ℕ → ℕ) → NodesRecur s n b a → AtFirst (order_in s n) i (Counted t b a)

-- the counts of the rule at the next place, from those of the rules that it names
place-counts : (s t : List ℕ) (n i : ℕ) (b a : ℕ → ℕ) → Ready s n → i < n → rule_in t (at_place s n i) ≡ rule_in s (at_place s n i) → NodesRecur s n b a
    → AtFirst (order_in s n) i (Counted t b a)
    → (before_from t (rule_in t (at_place s n i)) ≡ capped (b (at_place s n i))) × (after_from t (rule_in t (at_place s n i)) ≡ capped (a (at_place s n i)))
place-counts s t n i b a g below same recurs h =
    let x = row_counts t b a (rule_in s (at_place s n i)) (before-named g (Counted t b a) i below h) in
    let y = recurs (at_place s n i) (place-below g i below) in
    (ap (before_from t) same ∙ x.0 ∙ ap capped (sym y.0), ap (after_from t) same ∙ x.1 ∙ ap capped (sym y.1))

module _ {n i : ℕ} {s t : List ℕ} (g : Ready s n) (p : Passing n i s t) where
  -- the order is still there, and a row may be given its counts whatever its place
  pub passing-room : order_end n ≤ length t
  passing-room = let l : length t ≡ length s = p.besides.beyond.same_length in omega (arith, g.room)

  pub passing-readable : {r j : ℕ} → r ≡ at_place t n j → j < n → Readable t r
  passing-readable {j = j} e below = rw e (place-readable (ready-besides p.besides (omega arith) g) j below)

  -- the row at the next place
  pub passing-more : {r : ℕ} {u : List ℕ} → i < n → r ≡ at_place t n i → NodesPut r t u → Passing n (i + 1) s u
  unfolding twice
  passing-more {r} {u} below e new =
      let e' : r ≡ at_place s n i = e ∙ ap (λ (l : List ℕ). get_or l i 0) (order-besides p.besides) in
      let new' : NodesPut (at_place s n i) t u = rw e' at new in
      let at : ℕ = at_place s n i in
      let v : ℕ = before_from t (rule_in t at) in
      let w : ℕ = after_from t (rule_in t at) in
      let inside : at < n = place-below g i below in
      let room : order_end n ≤ length t = passing-room in
      rw new'.writes
      (record {
        below = omega arith;
        besides = besides-both p.besides (twice-besides t at v w n inside);
        columns = λ b a recurs.
            let c = place-counts s t n i b a g below (besides-rule p.besides (omega arith) at) recurs (p.columns b a recurs) in
            first_more (order_in s n) i (Counted t b a) (Counted (twice t at v w) b a)
            (twice-other t at v w b a) (twice-here t at v w b a (omega arith) c.0 c.1) (p.columns b a recurs);
      })

  pub passing-end : n ≤ i → Noded n s t
  passing-end past =
      let e : i ≡ n = omega (arith, p.below) in
      record {
        besides = p.besides;
        columns = λ b a recurs.
            let h = at_all g (Counted t b a) (rw e at (p.columns b a recurs)) in
            ((λ k below. (h k below).0), (λ k below. (h k below).1));
      }
