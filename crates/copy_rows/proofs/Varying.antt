-- The pass that gives each row its variants: they are made of those of the rules named, which come earlier in the order; so the rows at the
-- first places obey the recurrence, and the next row after it is written. Assumes nothing.
use Prim.Native.Nat.{ℕ, ◌+◌, ◌*◌, ◌≤◌, ◌<◌}
use native.Mathlib.Omega.{arith}
use mathlib.Core.Bool.{Bool}
use mathlib.Core.Path.{◌≡◌, refl, sym, ap, ap₂, ◌∙◌}
use mathlib.Core.List.{List}
use lib.Dec.{eqb}
use lib.ListN.{length, get_or}
use Rattle.rule.specs.declared.Rule.{Rule}
use Rattle.reach.proofs.Places.{AtFirst, first_more}
use Rattle.work_rows.specs.Rows.{row_length, own_end, rule_at, rule_in, Within, Stored}
use Rattle.work_rows.specs.Order.{order_end, order_in}
use Rattle.work_rows.proofs.Rows.{within_both, within_wider, within-rule, within-rule_at}
use Rattle.count_passes.specs.Tally.{Ready, Besides}
use Rattle.count_passes.proofs.Column.{besides-both, besides-within, besides-rule}
use Rattle.count_passes.proofs.Ordered.{at_place, place-below, named-below, before-named, at_all, order-besides, ready-besides}
use Rattle.copy_variants.specs.declared.Variants.{Variants}
use Rattle.copy_variants.specs.Variants.{variants_from}
use Rattle.copy_variants.proofs.Table.{from-same}
use Rattle.copy_rows.specs.Table.{most_copied, at_whole, at_shut, at_seen, seen_at, inner_of, variants_at, row_variants, Readable, RowVaried, Recurs, VariedRows}

-- the inner variant is made of the rule alone
pub from_inner : (seen : Bool) (r : ℕ) (x : Rule) (W : ℕ → Variants) → (variants_from seen r x W).inner ≡ inner_of x
unfolding variants_from inner_of
from_inner seen r Rule.Empty W = refl
from_inner seen r (Rule.Pair b c) W = refl
from_inner seen r (Rule.Node a c) W = refl
from_inner seen r (Rule.Fill b c) W = refl
from_inner seen r (Rule.Part a b c) W = refl
from_inner seen r (Rule.Join b c) W = refl

-- variants stay where the rules that they are read from do
pub variants-same : (s t : List ℕ) (k : ℕ) → rule_in t k ≡ rule_in s k → rule_at t k at_whole ≡ rule_at s k at_whole → rule_at t k at_shut ≡ rule_at s k at_shut
    → variants_at t k ≡ variants_at s k
unfolding variants_at
variants-same s t k p q e = λ i. record { inner = inner_of (p i); whole = q i; shut = e i }

-- both variants of row r's rule, written one after the other
pub row-varied : {x whole shut : Rule} (r : ℕ) (s : List ℕ) {u t : List ℕ} → x ≡ rule_in s r → whole ≡ (row_variants s r x).whole
    → shut ≡ (row_variants s r x).shut → Stored r at_whole whole s u → Stored r at_shut shut u t → RowVaried r s t
unfolding variants_at
row-varied r s {u} {t} e p q one two =
    let wide : Within (row_length * r + at_whole) (row_length * r + at_seen) s t
    = within_both (within_wider (row_length * r + at_whole) (row_length * r + at_seen) (omega arith) (omega arith) one.within)
    (within_wider (row_length * r + at_whole) (row_length * r + at_seen) (omega arith) (omega arith) two.within) in
    let own : rule_in t r ≡ rule_in s r = within-rule wide r (λ h. absurd (omega arith)) in
    let inner : inner_of (rule_in t r) ≡ (row_variants s r (rule_in s r)).inner
    = ap inner_of own ∙ sym (from_inner (seen_at s r) r (rule_in s r) (variants_at s)) in
    let first : rule_at t r at_whole ≡ (row_variants s r (rule_in s r)).whole
    = within-rule_at two.within r at_whole (λ h. absurd (omega arith)) ∙ one.keeps ∙ p ∙ ap (λ (y : Rule). (row_variants s r y).whole) e in
    let second : rule_at t r at_shut ≡ (row_variants s r (rule_in s r)).shut
    = two.keeps ∙ q ∙ ap (λ (y : Rule). (row_variants s r y).shut) e in
    record { within = wide; varied = λ i. record { inner = inner i; whole = first i; shut = second i } }

-- other rows keep theirs
other-varied : {r : ℕ} {s t : List ℕ} → RowVaried r s t → (k : ℕ) → (k ≡ r → ⊥) → variants_at t k ≡ variants_at s k
other-varied {r} {s} {t} new k ne =
    variants-same s t k
    (within-rule new.within k (λ h. omega arith))
    (within-rule_at new.within k at_whole (λ h. omega arith))
    (within-rule_at new.within k at_shut (λ h. omega arith))

-- nothing but the two places of the row has changed
row-besides : {n r : ℕ} {s t : List ℕ} → r < n → RowVaried r s t → Besides at_whole (own_end + own_end) n s t
row-besides {n} {r} below new =
    besides-within below (omega arith) (within_wider (row_length * r + at_whole) (row_length * r + at_whole + (own_end + own_end)) (omega arith) (omega arith) new.within)

-- the word that tells what may be seen stays
seen-besides : {n : ℕ} {s t : List ℕ} → Besides at_whole (own_end + own_end) n s t → (k : ℕ) → seen_at t k ≡ seen_at s k
unfolding seen_at
seen-besides b k = ap (λ (w : ℕ). eqb w 1) (b.fields 2 at_seen k (omega arith) (λ h. omega arith))

-- the rows of few rules may be read
pub ready-readable : {n : ℕ} {t : List ℕ} → Ready t n → n ≤ most_copied → (r : ℕ) → r < n → Readable t r (rule_in t r)
ready-readable {n} {t} g few r inside =
    let room : order_end n ≤ length t = g.room in
    record {
      own = record { room = omega arith; few = omega arith };
      named = λ k m. let l : k < n = named-below g r k inside m in record { room = omega arith; few = omega arith };
    }

-- the pass so far: the rows at the first i places of the order have their variants
pub record Passing (n i : ℕ) (s t : List ℕ) : Type 0 where
  pub below : i ≤ n
  pub besides : Besides at_whole (own_end + own_end) n s t
  pub table : (W : ℕ → Variants) → Recurs s n W → AtFirst (order_in s n) i (λ k. variants_at t k ≡ W k)

module _ {n i : ℕ} {s t : List ℕ} (g : Ready s n) (p : Passing n i s t) where
  -- the order is still there, and a row may be given its variants whatever its place
  pub passing-room : order_end n ≤ length t
  passing-room = let l : length t ≡ length s = p.besides.beyond.same_length in omega (arith, g.room)

  pub passing-readable : {r j : ℕ} → n ≤ most_copied → r ≡ at_place t n j → j < n → Readable t r (rule_in t r)
  passing-readable {r} {j} few e below =
      let now : Ready t n = ready-besides p.besides (omega arith) g in
      ready-readable now few r (rw e (place-below now j below))

  -- the variants of the rule at the next place, from those of the rules that it names
  place-variants : (W : ℕ → Variants) → i < n → Recurs s n W → row_variants t (at_place s n i) (rule_in t (at_place s n i)) ≡ W (at_place s n i)
  place-variants W below recurs =
      let at : ℕ = at_place s n i in
      ap₂ (λ (b : Bool) (x : Rule). variants_from b at x (variants_at t)) (seen-besides p.besides at) (besides-rule p.besides (omega arith) at)
      ∙ from-same (seen_at s at) at (rule_in s at) (variants_at t) W (before-named g (λ k. variants_at t k ≡ W k) i below (p.table W recurs))
      ∙ sym (recurs at (place-below g i below))

  -- the row at the next place
  pub passing-more : {r : ℕ} {u : List ℕ} → i < n → r ≡ at_place t n i → RowVaried r t u → Passing n (i + 1) s u
  passing-more {r} {u} below e new =
      let e' : r ≡ at_place s n i = e ∙ ap (λ (l : List ℕ). get_or l i 0) (order-besides p.besides) in
      let new' : RowVaried (at_place s n i) t u = rw e' at new in
      let inside : at_place s n i < n = place-below g i below in
      record {
        below = omega arith;
        besides = besides-both p.besides (row-besides inside new');
        table = λ W recurs.
            first_more (order_in s n) i (λ k. variants_at t k ≡ W k) (λ k. variants_at u k ≡ W k) (λ k ne h. other-varied new' k ne ∙ h)
            (new'.varied ∙ place-variants W below recurs) (p.table W recurs);
      }

  pub passing-end : n ≤ i → VariedRows n s t
  passing-end past =
      let e : i ≡ n = omega (arith, p.below) in
      record {
        besides = p.besides;
        table = λ W recurs. at_all g (λ k. variants_at t k ≡ W k) (rw e at (p.table W recurs));
      }
