-- Laws of rows. A field is a number in a list of bytes, so what a write leaves alone is known from one frame, `Within`: equal bytes
-- before it and after it. A rule's four fields lie apart in their row, so they are read back as written. Assumes nothing.
use Rattle.std.specs.Prelude.{Some}
use Prim.Native.Nat.{ℕ, zero, suc, ◌+◌, ◌-◌, ◌*◌, ◌/◌, ◌%◌, ◌^◌, ◌≤◌, ◌<◌}
use mathlib.Core.Bool.{true, false, cond, ◌&&◌, ◌||◌, and-true}
use mathlib.Core.Path.{◌≡◌, refl, sym, ap, ◌∙◌}
use mathlib.Core.List.{List}
use native.Mathlib.Omega.{arith}
use native.Mathlib.Decide.{dec_lt}
use lib.ListN.{length}
use lib.Dec.{eqb, ltb}
use borrow.Author.Tests.{lt-ltb, le-ltb}
use Rattle.words.specs.Number.{base}
use Rattle.words.proofs.Laws.{length-put, put_same, put_other}
pub use Rattle.words.proofs.Within.{within_none, within_both, within_wider, within-number, within-number-put}
use Rattle.record.specs.declared.Format.{Format}
use Rattle.record.specs.declared.Record.{Record}
use Rattle.rule.specs.declared.Rule.{Rule}
use Rattle.rule.specs.Rule.{kind_empty, kind_node, kind_part, high_part, label_in, decode, encode, every}
use Rattle.rule.proofs.Decode.{encode-decode}
use Rattle.rule.specs.Sound.{rule}
use Rattle.work_rows.specs.declared.Row.{Row}
use Rattle.work_rows.specs.Rows.{row_length, field, put_field, own_end, at_kind, at_label, at_one, at_two, row_of, rule_from, row_at, put_row, rule_at, rule_in, Holds, Within, Beyond, Stored, Loaded}

pub length-put_field : (w : ℕ) (t : List ℕ) (r o v : ℕ) → length (put_field w t r o v) ≡ length t
unfolding put_field
length-put_field w t r o v = length-put w t (row_length * r + o) v

-- a field after a write to it, and a field that lies apart from what is written
pub field-same : (w : ℕ) (t : List ℕ) (r o v : ℕ) → row_length * r + o + w ≤ length t → v < base ^ w → field w (put_field w t r o v) r o ≡ v
unfolding field put_field
field-same w t r o v fits small = put_same w t (row_length * r + o) v fits small

pub field-other : (w w' : ℕ) (t : List ℕ) (r o v r' o' : ℕ)
    → (row_length * r + o < row_length * r' + o' + w' → row_length * r + o + w ≤ row_length * r' + o')
    → field w' (put_field w t r o v) r' o' ≡ field w' t r' o'
unfolding field put_field
field-other w w' t r o v r' o' apart = put_other w w' t (row_length * r + o) v (row_length * r' + o') apart

-- a frame of one write to a field
pub within-put : (w : ℕ) (t : List ℕ) (r o v a e : ℕ) → a ≤ row_length * r + o → row_length * r + o + w ≤ e → Within a e t (put_field w t r o v)
unfolding put_field
within-put w t r o v a e low high = within-number-put w t (row_length * r + o) v a e low high

-- a field outside a frame stays
pub within-field : {a e : ℕ} {s t : List ℕ} → Within a e s t → (w r o : ℕ) → (a < row_length * r + o + w → e ≤ row_length * r + o)
    → field w t r o ≡ field w s r o
unfolding field
within-field p w r o apart = within-number p w (row_length * r + o) apart

-- a rule stays where its four fields do
pub rule-same : (s t : List ℕ) (r o : ℕ) → ((w p : ℕ) → p + w ≤ own_end → field w t r (o + p) ≡ field w s r (o + p)) → rule_at t r o ≡ rule_at s r o
unfolding rule_at row_at
rule-same s t r o same =
    rw (same 2 at_kind (omega arith), same 4 at_label (omega arith), same 2 at_one (omega arith), same 2 at_two (omega arith))

-- a rule outside a frame stays
pub within-rule_at : {a e : ℕ} {s t : List ℕ} → Within a e s t → (r o : ℕ) → (a < row_length * r + o + own_end → e ≤ row_length * r + o)
    → rule_at t r o ≡ rule_at s r o
within-rule_at {a} {e} {s} {t} p r o apart =
    rule-same s t r o (λ w q fits. within-field p w r (o + q) (λ h. let f : e ≤ row_length * r + o = apart (omega arith) in omega arith))

pub within-rule : {a e : ℕ} {s t : List ℕ} → Within a e s t → (r : ℕ) → (a < row_length * r + own_end → e ≤ row_length * r) → rule_in t r ≡ rule_in s r
unfolding rule_in
within-rule {a} {e} p r apart = within-rule_at p r 0 (λ h. let f : e ≤ row_length * r = apart (omega arith) in omega arith)

-- a write to a row below i
pub beyond-put : (w : ℕ) (t : List ℕ) (r o v i : ℕ) → row_length * r + o + w ≤ row_length * i → Beyond i t (put_field w t r o v)
beyond-put w t r o v i fits = within-put w t r o v 0 (row_length * i) (omega arith) fits

-- what a row keeps of a rule gives the rule back, and what is written to a row is read from it
pub rule_from-row_of : (x : Rule) → rule_from (row_of x) ≡ x
unfolding rule_from row_of
rule_from-row_of Rule.Empty = refl
rule_from-row_of (Rule.Pair b c) = refl
rule_from-row_of (Rule.Node a c) = refl
rule_from-row_of (Rule.Fill b c) = refl
rule_from-row_of (Rule.Part a b c) = refl
rule_from-row_of (Rule.Join b c) = refl

-- the fields' numbers fit their bytes
pub record Small (w : Row) : Type 0 where
  pub kind : w.kind < base ^ 2
  pub label : w.label < base ^ 4
  pub one : w.one < base ^ 2
  pub two : w.two < base ^ 2

-- the four fields after a row is written: each is written once, and lies apart from those written after it
module _ (t : List ℕ) (r o : ℕ) (w : Row) (fits : row_length * r + o + own_end ≤ length t) (small : Small w) where
  first : List ℕ
  first = put_field 2 t r (o + at_kind) w.kind

  second : List ℕ
  second = put_field 4 first r (o + at_label) w.label

  third : List ℕ
  third = put_field 2 second r (o + at_one) w.one

  long-first : length first ≡ length t
  unfolding first
  long-first = length-put_field 2 t r (o + at_kind) w.kind

  long-second : length second ≡ length t
  unfolding second
  long-second = length-put_field 4 first r (o + at_label) w.label ∙ long-first

  long-third : length third ≡ length t
  unfolding third
  long-third = length-put_field 2 second r (o + at_one) w.one ∙ long-second

  kind-kept : field 2 (put_row t r o w) r (o + at_kind) ≡ w.kind
  unfolding put_row first second third
  kind-kept =
      field-other 2 2 third r (o + at_two) w.two r (o + at_kind) (λ h. omega arith)
      ∙ field-other 2 2 second r (o + at_one) w.one r (o + at_kind) (λ h. omega arith)
      ∙ field-other 4 2 first r (o + at_label) w.label r (o + at_kind) (λ h. omega arith)
      ∙ field-same 2 t r (o + at_kind) w.kind (omega arith) small.kind

  label_kept : field 4 (put_row t r o w) r (o + at_label) ≡ w.label
  unfolding put_row first second third
  label_kept =
      field-other 2 4 third r (o + at_two) w.two r (o + at_label) (λ h. omega arith)
      ∙ field-other 2 4 second r (o + at_one) w.one r (o + at_label) (λ h. omega arith)
      ∙ field-same 4 first r (o + at_label) w.label (omega (arith, long-first)) small.label

  one_kept : field 2 (put_row t r o w) r (o + at_one) ≡ w.one
  unfolding put_row first second third
  one_kept =
      field-other 2 2 third r (o + at_two) w.two r (o + at_one) (λ h. omega arith)
      ∙ field-same 2 second r (o + at_one) w.one (omega (arith, long-second)) small.one

  two-kept : field 2 (put_row t r o w) r (o + at_two) ≡ w.two
  unfolding put_row first second third
  two-kept = field-same 2 third r (o + at_two) w.two (omega (arith, long-third)) small.two

  pub row_at-put_row : row_at (put_row t r o w) r o ≡ w
  unfolding row_at
  row_at-put_row = λ i. record { kind = kind-kept i; label = label_kept i; one = one_kept i; two = two-kept i }

  pub within-put_row : Within (row_length * r + o) (row_length * r + o + own_end) t (put_row t r o w)
  unfolding put_row
  within-put_row =
      let a : ℕ = row_length * r + o in
      let e : ℕ = row_length * r + o + own_end in
      within_both (within-put 2 t r (o + at_kind) w.kind a e (omega arith) (omega arith))
      (within_both (within-put 4 _ r (o + at_label) w.label a e (omega arith) (omega arith))
      (within_both (within-put 2 _ r (o + at_one) w.one a e (omega arith) (omega arith))
      (within-put 2 _ r (o + at_two) w.two a e (omega arith) (omega arith))))

-- a rule written to a row is kept there
pub stored : (s t : List ℕ) (r o : ℕ) (x : Rule) (w : Row) → w ≡ row_of x → row_length * r + o + own_end ≤ length s → Small w → t ≡ put_row s r o w
    → Stored r o x s t
unfolding rule_at
stored s t r o x w e fits small p =
    rw p
    (record {
      keeps = ap rule_from (row_at-put_row s r o w fits small ∙ e) ∙ rule_from-row_of x;
      within = within-put_row s r o w fits small;
    })

-- a record's words as a row: those of the rule that it means
unfoldable record_row : Record → Row
record_row w =
    cond (eqb w.kind kind_node || eqb w.kind kind_part) (record { kind = w.kind; label = label_in w; one = w.two; two = w.three })
    (record { kind = w.kind; label = 0; one = w.one; two = w.two })

encoded-row : (x : Rule) → record_row (encode x) ≡ row_of x
unfolding record_row encode row_of label_in
encoded-row Rule.Empty = refl
encoded-row (Rule.Pair b c) = refl
encoded-row (Rule.Node a c) = let e : a % high_part + high_part * (a / high_part) ≡ a = omega arith in rw e
encoded-row (Rule.Fill b c) = refl
encoded-row (Rule.Part a b c) = let e : a % high_part + high_part * (a / high_part) ≡ a = omega arith in rw e
encoded-row (Rule.Join b c) = refl

module _ (w : Record) (small : w.one < high_part) (f : Format) (x : Rule) (means : decode f w ≡ Some x) where
  recorded_row : record_row w ≡ row_of x
  recorded_row = ap record_row (sym (encode-decode f w x small means)) ∙ encoded-row x

  -- with a label, and without
  pub labelled-row : (eqb w.kind kind_node || eqb w.kind kind_part) ≡ true → record { kind = w.kind; label = label_in w; one = w.two; two = w.three } ≡ row_of x
  unfolding record_row
  labelled-row e = rw e at recorded_row

  pub unlabelled-row : (eqb w.kind kind_node || eqb w.kind kind_part) ≡ false → record { kind = w.kind; label = 0; one = w.one; two = w.two } ≡ row_of x
  unfolding record_row
  unlabelled-row e = rw e at recorded_row

-- the words of a row tell whether its rule names only rules below i
one_below : (c i : ℕ) → (ltb c i && ltb 0 i) ≡ ltb c i
one_below c zero = rw (le-ltb c 0 (omega arith))
one_below c (suc i) = rw (lt-ltb 0 (suc i) (omega arith)) (and-true (ltb c (suc i)))

pub row_below : (x : Rule) (i : ℕ) → (eqb (row_of x).kind kind_empty || (ltb (row_of x).one i && ltb (row_of x).two i)) ≡ every (λ k. ltb k i) x
unfolding row_of every
row_below Rule.Empty i = refl
row_below (Rule.Pair b c) i = refl
row_below (Rule.Node a c) i = one_below c i
row_below (Rule.Fill b c) i = refl
row_below (Rule.Part a b c) i = refl
row_below (Rule.Join b c) i = refl

-- the rows hold rules: none at first, and one more after each write
pub loaded-none : (R : List Rule) (s : List ℕ) → Loaded R 0 s s
unfolding Holds
loaded-none R s = record { holds = λ k below. absurd (omega arith); beyond = within_none 0 (row_length * 0) s }

holds_more : (R : List Rule) (s t : List ℕ) (i : ℕ) → Holds R s i → Stored i 0 (rule R i) s t → Holds R t (i + 1)
unfolding Holds rule_in
holds_more R s t i h new k below =
    elim (dec_lt k i) as (λ (d : Dec (k < i)). rule_in t k ≡ rule R k) [
      | yes under ↦ within-rule_at new.within k 0 (λ v. absurd (omega arith)) ∙ h k under
      | no over ↦ let e : k ≡ i = omega arith in rw e new.keeps
    ]

pub loaded-more : (R : List Rule) (s t u : List ℕ) (i : ℕ) → Loaded R i s t → Stored i 0 (rule R i) t u → Loaded R (i + 1) s u
loaded-more R s t u i h new =
    record {
      holds = holds_more R t u i h.holds new;
      beyond =
          within_both (within_wider 0 (row_length * (i + 1)) (omega arith) (omega arith) h.beyond)
          (within_wider 0 (row_length * (i + 1)) (omega arith) (omega arith) new.within);
    }
