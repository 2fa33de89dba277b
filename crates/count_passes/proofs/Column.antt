-- Columns of rows: a write to one place of a row leaves every other place of every row alone, and what lies past the rows. So the rules
-- and the other columns stay. Assumes nothing.
use Prim.Native.Nat.{ℕ, ◌+◌, ◌*◌, ◌^◌, ◌≤◌, ◌<◌}
use native.Mathlib.Omega.{arith}
use native.Mathlib.Decide.{dec_lt}
use mathlib.Core.Path.{◌≡◌, refl, ◌∙◌}
use mathlib.Core.List.{List}
use lib.ListN.{length}
use Rattle.words.specs.Number.{base}
use Rattle.work_rows.specs.Rows.{row_length, own_end, field, put_field, rule_at, rule_in, Within}
use Rattle.work_rows.proofs.Rows.{field-same, field-other, within_none, within_both, within_wider, within-field, rule-same, beyond-put}
use Rattle.count_capped.specs.Count.{capped, count_length}
use Rattle.count_passes.specs.Tally.{Besides}

-- two places of rows lie apart: the rows or the places differ
apart : (o w v p r k : ℕ) → o + w ≤ row_length → p + v ≤ row_length → (o < p + v → o + w ≤ p)
    → row_length * r + o < row_length * k + p + v → row_length * r + o + w ≤ row_length * k + p
apart o w v p r k fits within sep h =
    elim (dec_lt r k) as (λ (d : Dec (r < k)). row_length * r + o + w ≤ row_length * k + p) [
      | yes l ↦ omega arith
      | no l ↦ elim (dec_lt k r) as (λ (d : Dec (k < r)). row_length * r + o + w ≤ row_length * k + p) [
        | yes m ↦ absurd (omega arith)
        | no m ↦ let e : r ≡ k = omega arith in let s : o + w ≤ p = sep (omega arith) in omega arith
      ]
    ]

pub besides-none : (o w n : ℕ) (s : List ℕ) → Besides o w n s s
besides-none o w n s = record { fields = λ v p k f a. refl; beyond = within_none 0 (row_length * n) s }

pub besides-both : {o w n : ℕ} {s t u : List ℕ} → Besides o w n s t → Besides o w n t u → Besides o w n s u
besides-both p q =
    record { fields = λ v x k f a. q.fields v x k f a ∙ p.fields v x k f a; beyond = within_both p.beyond q.beyond }

-- a wider place
pub besides-wider : {o w n : ℕ} {s t : List ℕ} (o' w' : ℕ) → o' ≤ o → o + w ≤ o' + w' → Besides o w n s t → Besides o' w' n s t
besides-wider {o} {w} o' w' low high p =
    record { fields = λ v x k f a. p.fields v x k f (λ h. let b : o' + w' ≤ x = a (omega arith) in omega arith); beyond = p.beyond }

pub besides-put : (w : ℕ) (t : List ℕ) (r o v n : ℕ) → r < n → o + w ≤ row_length → Besides o w n t (put_field w t r o v)
besides-put w t r o v n below fits =
    record {
      fields = λ v' p k f a. field-other w v' t r o v k p (apart o w v' p r k fits f a);
      beyond = beyond-put w t r o v n (omega arith);
    }

-- bytes of one row are written, whatever they are
pub besides-within : {o w n r : ℕ} {s t : List ℕ} → r < n → o + w ≤ row_length → Within (row_length * r + o) (row_length * r + o + w) s t
    → Besides o w n s t
besides-within {o} {w} {n} {r} below fits p =
    record {
      fields = λ v q k f a. within-field p v k q (apart o w v q r k fits f a);
      beyond = within_wider 0 (row_length * n) (omega arith) (omega arith) p;
    }

-- rules in other places stay, and so do the rows' own
pub besides-rule_at : {o w n : ℕ} {s t : List ℕ} → Besides o w n s t → (k q : ℕ) → q + own_end ≤ row_length → (o < q + own_end → o + w ≤ q)
    → rule_at t k q ≡ rule_at s k q
besides-rule_at {o} {w} {n} {s} {t} p k q fits a =
    rule-same s t k q (λ v x f. p.fields v (q + x) k (omega arith) (λ h. let e : o + w ≤ q = a (omega arith) in omega arith))

pub besides-rule : {o w n : ℕ} {s t : List ℕ} → Besides o w n s t → own_end ≤ o → (k : ℕ) → rule_in t k ≡ rule_in s k
unfolding rule_in
besides-rule p past k = besides-rule_at p k 0 (omega arith) (λ h. absurd (omega arith))

-- a write leaves the same place of every other row
pub other_row : (w : ℕ) (t : List ℕ) (r o v k : ℕ) → o + w ≤ row_length → (k ≡ r → ⊥) → field w (put_field w t r o v) k o ≡ field w t k o
other_row w t r o v k fits ne = field-other w w t r o v k o (λ h. omega arith)

-- a row's count, once written, is there
pub count-put : (t : List ℕ) (r o v m : ℕ) → row_length * (r + 1) ≤ length t → o + count_length ≤ row_length → v ≡ capped m
    → field count_length (put_field count_length t r o v) r o ≡ capped m
count-put t r o v m room fits q = field-same count_length t r o v (omega arith) (small q) ∙ q
  where
    small : v ≡ capped m → v < base ^ count_length
    small q = omega arith
