-- The pass that gives each row its number of trees: it depends on those of the rules named, which come earlier in the order, and a sum of
-- numbers told up to 65,535 is told as the sum itself is; so the rows at the first places obey the recurrence, and the next row after it
-- is written. Assumes nothing.
use Prim.Native.Nat.{ℕ, ◌+◌, ◌*◌, min, ◌≤◌, ◌<◌}
use native.Mathlib.Omega.{arith}
use mathlib.Core.Path.{◌≡◌, refl, sym, ap, ◌∙◌}
use mathlib.Core.List.{List}
use lib.ListN.{length, get_or}
use Rattle.record.specs.Record.{word_length}
use Rattle.rule.specs.declared.Rule.{Rule}
use Rattle.rule.specs.Names.{Names, pair_one, pair_two, join_one, join_two}
use Rattle.reach.proofs.Places.{AtFirst, first_more}
use Rattle.work_rows.specs.Rows.{row_length, put_field, rule_in}
use Rattle.work_rows.specs.Order.{order_end, order_in}
use Rattle.work_rows.proofs.Rows.{field-same}
use Rattle.count_passes.specs.Tally.{Ready, Readable, Besides}
use Rattle.count_passes.proofs.Column.{besides-both, besides-put, besides-rule, other_row}
use Rattle.count_passes.proofs.Ordered.{at_place, place-below, place-readable, before-named, at_all, order-besides, ready-besides}
use Rattle.transfer_path.specs.Follow.{most_place}
use Rattle.tops_rows.specs.Tops.{at_tops, tops_at, few_sum, tops_of, tops_from, TopsPut, TopsRecur, Topped}

-- row k tells the number of f
abbrev Tells : List ℕ → (ℕ → ℕ) → ℕ → Type 0
Tells t f k = tops_at t k ≡ min (f k) most_place

-- a sum told of numbers told
sum_told : {a b : ℕ} (x y : ℕ) → a ≡ min x most_place → b ≡ min y most_place → few_sum a b ≡ min (x + y) most_place
sum_told x y p q = omega arith

row_told : (t : List ℕ) (f : ℕ → ℕ) (x : Rule) → ((k : ℕ) → Names x k → Tells t f k) → tops_from t x ≡ min (tops_of ◌+◌ f x) most_place
unfolding tops_of
row_told t f Rule.Empty h = refl
row_told t f (Rule.Pair b c) h = sum_told (f b) (f c) (h b pair_one) (h c pair_two)
row_told t f (Rule.Node a c) h = refl
row_told t f (Rule.Fill b c) h = refl
row_told t f (Rule.Part a b c) h = refl
row_told t f (Rule.Join b c) h = sum_told (f b) (f c) (h b join_one) (h c join_two)

pub tops-put : {r v : ℕ} {x : Rule} (s : List ℕ) {t : List ℕ} → x ≡ rule_in s r → v ≡ tops_from s x → t ≡ put_field word_length s r at_tops v → TopsPut r s t
tops-put s q e y = record { writes = y ∙ rw (e, q) }

-- the pass so far: the rows at the first i places of the order have their numbers
pub record Passing (n i : ℕ) (s t : List ℕ) : Type 0 where
  pub below : i ≤ n
  pub besides : Besides at_tops word_length n s t
  pub column : (f : ℕ → ℕ) → TopsRecur s n f → AtFirst (order_in s n) i (Tells t f)

-- the number of the rule at the next place, from those of the rules that it names
place-told : (s t : List ℕ) (n i : ℕ) (f : ℕ → ℕ) → Ready s n → i < n → rule_in t (at_place s n i) ≡ rule_in s (at_place s n i) → TopsRecur s n f
    → AtFirst (order_in s n) i (Tells t f) → tops_from t (rule_in t (at_place s n i)) ≡ min (f (at_place s n i)) most_place
place-told s t n i f g below same recurs h =
    ap (tops_from t) same
    ∙ row_told t f (rule_in s (at_place s n i)) (before-named g (Tells t f) i below h)
    ∙ ap (λ m. min m most_place) (sym (recurs (at_place s n i) (place-below g i below)))

-- a number that is told fits its word
put-here : (t : List ℕ) (r v : ℕ) (f : ℕ → ℕ) → row_length * (r + 1) ≤ length t → v ≡ min (f r) most_place → Tells (put_field word_length t r at_tops v) f r
put-here t r v f room e = field-same word_length t r at_tops v (omega arith) (omega arith) ∙ e

module _ {n i : ℕ} {s t : List ℕ} (g : Ready s n) (p : Passing n i s t) where
  -- the order is still there, and a row may be given its number whatever its place
  pub passing-room : order_end n ≤ length t
  passing-room = let l : length t ≡ length s = p.besides.beyond.same_length in omega (arith, g.room)

  pub passing-readable : {r j : ℕ} → r ≡ at_place t n j → j < n → Readable t r
  passing-readable {j = j} e below = rw e (place-readable (ready-besides p.besides (omega arith) g) j below)

  -- the row at the next place
  pub passing-more : {r : ℕ} {u : List ℕ} → i < n → r ≡ at_place t n i → TopsPut r t u → Passing n (i + 1) s u
  passing-more {r} {u} below e new =
      let e' : r ≡ at_place s n i = e ∙ ap (λ (l : List ℕ). get_or l i 0) (order-besides p.besides) in
      let new' : TopsPut (at_place s n i) t u = rw e' at new in
      let at : ℕ = at_place s n i in
      let v : ℕ = tops_from t (rule_in t at) in
      let inside : at < n = place-below g i below in
      let room : order_end n ≤ length t = passing-room in
      rw new'.writes
      (record {
        below = omega arith;
        besides = besides-both p.besides (besides-put word_length t at at_tops v n inside (omega arith));
        column = λ f recurs.
            first_more (order_in s n) i (Tells t f) (Tells (put_field word_length t at at_tops v) f)
            (λ k ne h. other_row word_length t at at_tops v k (omega arith) ne ∙ h)
            (put-here t at v f (omega arith)
            (place-told s t n i f g below (besides-rule p.besides (omega arith) at) recurs (p.column f recurs)))
            (p.column f recurs);
      })

  pub passing-end : n ≤ i → Topped n s t
  passing-end past =
      let e : i ≡ n = omega (arith, p.below) in
      record { besides = p.besides; column = λ f recurs. at_all g (Tells t f) (rw e at (p.column f recurs)) }
