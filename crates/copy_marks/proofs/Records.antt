-- The second pass so far: the marked variants at the places below i are written and have their numbers. Assumes nothing.
use Prim.Native.Nat.{ℕ, suc, ◌+◌, ◌-◌, ◌*◌, ◌≤◌, ◌<◌}
use native.Mathlib.Omega.{arith}
use native.Mathlib.Numerals.{add-one}
use mathlib.Core.Bool.{true, false, false≢true}
use mathlib.Core.Path.{◌≡◌, refl, sym, ap, ◌∙◌}
use mathlib.Core.List.{List, [], ◌∷◌, ◌++◌, map, append_assoc, append-nil}
use lib.ListN.{length, take, drop, length-map, length-append, length-drop}
use lib.Seq.{length-take-le}
use lib.Dec.{ltb, eqb}
use borrow.Author.Tests.{eqb-true, eqb-false, lt-ltb}
use borrow.Table.Steps.{cases}
use Rattle.words.specs.Put.{put}
use Rattle.words.specs.Front.{in_front}
use Rattle.words.proofs.Front.{in_front-more}
use Rattle.words.proofs.Within.{within_none, within_both}
use Rattle.record.specs.declared.Format.{Format}
use Rattle.record.specs.Format.{high_length, length_of_record}
use Rattle.record.specs.Record.{record_bytes}
use Rattle.record.specs.Records.{records_bytes}
use Rattle.record.proofs.RecordBytes.{length-record_bytes, length-records_bytes}
use Rattle.rule.specs.declared.Rule.{Rule}
use Rattle.rule.specs.Rule.{encode}
use Rattle.rule.specs.Sound.{rule}
use Rattle.reach.specs.Order.{count}
use Rattle.copy_variants.proofs.Table.{variants_length}
use Rattle.copy_passes.specs.Passes.{Placing, marks, number, renamed, written_up, reached_rules, reached_number}
use Rattle.copy_passes.proofs.Turns.{Numbered, written-more, written-kept, numbered_more}
use Rattle.copy_passes.proofs.Marking.{marks-start}
use Rattle.copy_passes.proofs.Numbering.{written-length}
use Rattle.copy_rows.specs.Table.{variants_at}
use Rattle.copy_marks.specs.Marks.{mark_at, marked, number_in, variant_in, variants_in, places_in, Markable, OnlyMarks, HasMarks}
use Rattle.copy_marks.specs.Written.{wide_bytes, with_rule, Writable, VariantWritten, Written}
use Rattle.copy_marks.proofs.Marks.{put-own, put-others, put_only, as-rule, kept_variant, kept-places, kept-markable}

-- one rule's bytes more
bytes-more : (C : List Rule) (x : Rule) → wide_bytes (C ++ (x ∷ [])) ≡ wide_bytes C ++ record_bytes Format.Wide (encode x)
unfolding records_bytes
bytes-more [] x = append-nil (record_bytes Format.Wide (encode x))
bytes-more (y ∷ C) x =
    ap (λ (l : List ℕ). record_bytes Format.Wide (encode y) ++ l) (bytes-more C x)
    ∙ sym (append_assoc (record_bytes Format.Wide (encode y)) (wide_bytes C) (record_bytes Format.Wide (encode x)))

pub rule-more : (C : List Rule) (x : Rule) (out : List ℕ) → with_rule (in_front (wide_bytes C) out) (length C) x ≡ in_front (wide_bytes (C ++ (x ∷ []))) out
rule-more C x out =
    let long : length (wide_bytes C) ≡ length_of_record Format.Wide * length C
    = length-records_bytes Format.Wide (map encode C) ∙ ap (λ (k : ℕ). length_of_record Format.Wide * k) (length-map C encode) in
    in_front-more (wide_bytes C) out (record_bytes Format.Wide (encode x)) (length_of_record Format.Wide * length C) (length_of_record Format.Wide) long (length-record_bytes Format.Wide (encode x))
    ∙ ap (λ (l : List ℕ). in_front l out) (sym (bytes-more C x))

-- the rules written at the places below i
abbrev up_to : ℕ → List ℕ → (ℕ → ℕ) → ℕ → ℕ → List Rule
up_to n s place start i =
    written_up (variants_in s n) (places_in s n) (marks (variants_in s n) (places_in s n) start) (number (marks (variants_in s n) (places_in s n) start) (places_in s n) place) i

-- what is known for a start and the places of the order
pub record Known (n i m start : ℕ) (place : ℕ → ℕ) (s out₀ t out : List ℕ) : Type 0 where
  pub front : out ≡ in_front (wide_bytes (up_to n s place start i)) out₀
  pub counted : m ≡ length (up_to n s place start i)
  pub numbered : Numbered (places_in s n) (marks (variants_in s n) (places_in s n) start) (number_in t n) i
  pub still : HasMarks n start s t

pub record Writing (n i m : ℕ) (s out₀ t out : List ℕ) : Type 0 where
  pub below : i ≤ 3 * n
  pub few : m ≤ i
  pub only : OnlyMarks n s t
  pub long : length out ≡ length out₀
  pub known : (start : ℕ) (place : ℕ → ℕ) → Placing (variants_in s n) (places_in s n) place → HasMarks n start s s → Known n i m start place s out₀ t out

pub writing_start : (n : ℕ) (s out : List ℕ) → Writing n 0 0 s out s out
unfolding written_up records_bytes in_front
writing_start n s out =
    record {
      below = omega arith;
      few = omega arith;
      only = within_none _ _ s;
      long = refl;
      known = λ start place P h. record { front = refl; counted = refl; numbered = λ p l. absurd (omega (arith, l)); still = h };
    }

-- the number that is kept, and what is still marked
own-number : (n k m : ℕ) (t : List ℕ) → mark_at n k + 2 ≤ length t → m + 1 < 65536 → number_in (put 2 t (mark_at n k) (m + 1)) n k ≡ m
unfolding number_in
own-number n k m t fits small = ap (λ (w : ℕ). w - 1) (put-own n k (m + 1) t fits small) ∙ omega arith

other-number : (n k v j : ℕ) (t : List ℕ) → (j ≡ k → ⊥) → number_in (put 2 t (mark_at n k) v) n j ≡ number_in t n j
unfolding number_in
other-number n k v j t ne = ap (λ (w : ℕ). w - 1) (put-others n k v j t ne)

still_marked : (n k m j : ℕ) (t : List ℕ) → mark_at n k + 2 ≤ length t → m + 1 < 65536 → marked t n k ≡ true
    → marked (put 2 t (mark_at n k) (m + 1)) n j ≡ marked t n j
unfolding marked
still_marked n k m j t fits small hit =
    cases (eqb j k)
    (λ e. let q : j ≡ k = eqb-true j k e in rw q (ap (ltb 0) (put-own n k (m + 1) t fits small) ∙ lt-ltb 0 (m + 1) (omega arith) ∙ sym hit))
    (λ e. ap (ltb 0) (put-others n k (m + 1) j t (eqb-false j k e)))

-- a rule more, over plain values
front-more : (C D : List Rule) (x y : Rule) (out out₀ out' : List ℕ) (m : ℕ) → out ≡ in_front (wide_bytes C) out₀ → m ≡ length C → D ≡ C ++ (y ∷ []) → x ≡ y
    → out' ≡ with_rule out m x → out' ≡ in_front (wide_bytes D) out₀
front-more C D x y out out₀ out' m o c d q e = rw d (e ∙ rw (o, c, q) (rule-more C y out₀))

count-more : (C D : List Rule) (y : Rule) (m : ℕ) → m ≡ length C → D ≡ C ++ (y ∷ []) → m + 1 ≡ length D
count-more C D y m c d = rw d (let e : length (C ++ (y ∷ [])) ≡ length C + 1 = length-append C (y ∷ []) in omega (arith, c, e))

module _ {n i m k : ℕ} {s out₀ t out : List ℕ} (g : Markable s n) (l : i < 3 * n) (at : k ≡ places_in s n i) where
  -- a variant that isn't marked is passed over
  known-skipped : (start : ℕ) (place : ℕ → ℕ) → Placing (variants_in s n) (places_in s n) place → marked t n k ≡ false
      → Known n i m start place s out₀ t out → Known n (suc i) m start place s out₀ t out
  known-skipped start place P miss a =
      let long : length (variants_in s n) ≡ 3 * n = variants_length (variants_at s) n in
      let inside : places_in s n i < 3 * n = rw long at (P.inside i (rw long l)) in
      let off : marks (variants_in s n) (places_in s n) start (places_in s n i) ≡ false = sym (a.still (places_in s n i) inside) ∙ (rw at at miss) in
      let same : up_to n s place start (suc i) ≡ up_to n s place start i = written-kept g.ranged P start _ i off in
      record {
        front = rw same a.front;
        counted = rw same a.counted;
        numbered = numbered_more g.ranged P (marks (variants_in s n) (places_in s n) start) (number_in t n) (number_in t n) i (rw long l) a.numbered (λ j b ne. refl) (λ on. absurd (false≢true (sym off ∙ on)));
        still = a.still;
      }

  known_written : (start : ℕ) (place : ℕ → ℕ) → Placing (variants_in s n) (places_in s n) place → OnlyMarks n s t → mark_at n k + 2 ≤ length t → m + 1 < 65536
      → marked t n k ≡ true → (out' : List ℕ) → out' ≡ with_rule out m (renamed (number_in t n) (variant_in t k))
      → Known n i m start place s out₀ t out → Known n (suc i) (m + 1) start place s out₀ (put 2 t (mark_at n k) (m + 1)) out'
  known_written start place P w fits small hit out' eo a =
      let long : length (variants_in s n) ≡ 3 * n = variants_length (variants_at s) n in
      let inside : places_in s n i < 3 * n = rw long at (P.inside i (rw long l)) in
      let on : marks (variants_in s n) (places_in s n) start (places_in s n i) ≡ true = sym (a.still (places_in s n i) inside) ∙ (rw at at hit) in
      let more : up_to n s place start (suc i) ≡ up_to n s place start i ++ (renamed (number_in t n) (rule (variants_in s n) (places_in s n i)) ∷ [])
      = written-more g.ranged P start (number_in t n) i (rw long l) on a.numbered in
      let same : variant_in t k ≡ rule (variants_in s n) (places_in s n i) = ap (variant_in t) at ∙ kept_variant n w (places_in s n i) inside ∙ as-rule s n (places_in s n i) inside in
      record {
        front = front-more (up_to n s place start i) (up_to n s place start (suc i)) (renamed (number_in t n) (variant_in t k)) (renamed (number_in t n) (rule (variants_in s n) (places_in s n i))) out out₀ out' m a.front a.counted more (ap (renamed (number_in t n)) same) eo;
        counted = count-more (up_to n s place start i) (up_to n s place start (suc i)) (renamed (number_in t n) (rule (variants_in s n) (places_in s n i))) m a.counted more;
        numbered = numbered_more g.ranged P (marks (variants_in s n) (places_in s n) start) (number_in t n) (number_in (put 2 t (mark_at n k) (m + 1)) n) i (rw long l) a.numbered
            (λ j b ne. other-number n k (m + 1) j t (λ q. ne (q ∙ at)))
            (λ h. ap (number_in (put 2 t (mark_at n k) (m + 1)) n) (sym at) ∙ own-number n k m t fits small ∙ a.counted ∙ written-length (variants_in s n) (places_in s n) (marks (variants_in s n) (places_in s n) start) (number (marks (variants_in s n) (places_in s n) start) (places_in s n) place) i);
        still = λ j b. still_marked n k m j t fits small hit ∙ a.still j b;
      }

-- a record written changes no length
with-long : (m : ℕ) (x : Rule) (out : List ℕ) → length_of_record Format.Wide * m + length_of_record Format.Wide ≤ length out → length (with_rule out m x) ≡ length out
with-long m x out fits =
    let a : length (take (length_of_record Format.Wide * m) out) ≡ length_of_record Format.Wide * m = length-take-le (length_of_record Format.Wide * m) out (omega (arith, fits)) in
    let b = length-record_bytes Format.Wide (encode x) in
    let d = length-drop (length_of_record Format.Wide * m + length_of_record Format.Wide) out in
    let e = length-append (record_bytes Format.Wide (encode x)) (drop (length_of_record Format.Wide * m + length_of_record Format.Wide) out) in
    length-append (take (length_of_record Format.Wide * m) out) (record_bytes Format.Wide (encode x) ++ drop (length_of_record Format.Wide * m + length_of_record Format.Wide) out)
    ∙ omega (arith, a, b, d, e, fits)

room-more : (n m z : ℕ) → length_of_record Format.Wide * (3 * n) ≤ z → m < 3 * n → length_of_record Format.Wide * m + length_of_record Format.Wide ≤ z
unfolding high_length
room-more n m z space l = omega (arith, space, l)

pub writing_more : {n i m k m' : ℕ} {s out₀ t out t' out' : List ℕ} → Writable s out₀ n → Writing n i m s out₀ t out → i < 3 * n → (k ≡ places_in t n i) × (k < 3 * n)
    → VariantWritten n k m t out m' t' out' → Writing n (i + 1) m' s out₀ t' out'
writing_more {n} {i} {m} {k} {m'} {s} {out₀} {t} {out} {t'} {out'} g p l (q, b) new =
    let at : k ≡ places_in s n i = q ∙ kept-places n p.only i in
    let same : length t ≡ length s = p.only.same_length in
    let fits : mark_at n k + 2 ≤ length t = omega (arith, same, g.markable.room, b) in
    let small : m + 1 < 65536 = omega (arith, p.few, l, g.markable.few) in
    cases (marked t n k)
    (λ hit. let (et, eo, em) = new.written hit in
    rw (et, em, add-one) (record {
      below = omega (arith, l);
      few = omega (arith, p.few);
      only = within_both p.only (put_only n k (m + 1) t b);
      long = ap length eo ∙ with-long m (renamed (number_in t n) (variant_in t k)) out (room-more n m (length out) (omega (arith, p.long, g.space)) (omega (arith, p.few, l))) ∙ p.long;
      known = λ start place P h.
          known_written g.markable l at start place P p.only fits small hit out' eo (p.known start place P h);
    }))
    (λ miss. let (et, eo, em) = new.skipped miss in
    rw (et, eo, em, add-one) (record {
      below = omega (arith, l);
      few = omega (arith, p.few);
      only = p.only;
      long = p.long;
      known = λ start place P h. known-skipped g.markable l at start place P miss (p.known start place P h);
    }))

pub writing-end : {n i m : ℕ} {s out₀ t out : List ℕ} → Writable s out₀ n → Writing n i m s out₀ t out → 3 * n ≤ i → Written n s out₀ m t out
unfolding reached_rules reached_number number count
writing-end {n} {i} {m} {s} {out₀} {t} {out} g p past =
    let long : length (variants_in s n) ≡ 3 * n = variants_length (variants_at s) n in
    let e : i ≡ length (variants_in s n) = omega (arith, past, p.below, long) in
    record {
      only = p.only;
      rules = λ start place P h. let a : Known n (length (variants_in s n)) m start place s out₀ t out = rw e at (p.known start place P h) in (a.front, a.counted);
      numbers = λ start place P h below.
          let a : Known n (length (variants_in s n)) m start place s out₀ t out = rw e at (p.known start place P h) in
          rw (P.there start (rw long below)) at
          (a.numbered (place start) (P.placed start (rw long below)) (rw (P.there start (rw long below)) (marks-start (variants_in s n) (places_in s n) place P start)));
    }

pub writing-writable : {n i m : ℕ} {s out₀ t out : List ℕ} → Writable s out₀ n → Writing n i m s out₀ t out → Writable t out n
writing-writable {n} g p = record { markable = kept-markable n p.only g.markable; space = rw p.long g.space }
