-- The trailer that is written is the one that check reads: each of its numbers is read back from the bytes written, and a
-- trailer's bytes are those of the numbers that it holds. Assumes nothing.
use Prim.Native.Nat.{ℕ, ◌+◌, ◌-◌, ◌*◌, ◌^◌, ◌≤◌, ◌<◌}
use mathlib.Core.Bool.{true, cond, ◌||◌, and-eq-true_iff}
use mathlib.Core.List.{List, [], ◌∷◌, ◌++◌, append_assoc}
use mathlib.Core.Path.{◌≡◌, refl, sym, ap, ap₂, ◌∙◌}
use native.Mathlib.Nat.{add-zero}
use native.Mathlib.Numerals.{add-two, add-four, add_eight}
use native.Mathlib.Omega.{arith}
use lib.Dec.{leb, eqb}
use lib.ListN.{length, take, drop, length-append, length-drop}
use lib.Seq.{sets, sets-eq, drop-append-add, take-append_seam, take_all}
use borrow.Author.Tests.{le-leb, eq-eqb, eqb-true}
use Rattle.words.specs.Number.{number, bytes, base}
use Rattle.words.specs.Put.{put}
use Rattle.words.proofs.Laws.{number-after, number-bytes}
use Rattle.record.specs.declared.Format.{Format}
use Rattle.record.specs.Format.{length_of_record}
use Rattle.record.proofs.Formats.{records-most}
use Rattle.record.specs.Records.{records_from}
use Rattle.judge.specs.Judge.{judged}
use Rattle.plan.specs.Check.{trailer_length, at_start, at_distance, at_mark, magic, trailer_bytes, trailer_at, count_of, start_of, distance_of, same, marked_as, marked, format_of, first_at, records_of, accepted, in_limits, checked_up_to}
use Rattle.plan.proofs.Sound.{answer, checked-answer}
use Rattle.record.proofs.RecordBytes.{Bytes, records-take, read-part}

-- the mark has two bytes, and is no other format's
pub length-magic : (f : Format) → length (magic f) ≡ 2
unfolding magic
length-magic Format.Narrow = refl
length-magic Format.Wide = refl

pub length-trailer_bytes : (f : Format) (n start : ℕ) → length (trailer_bytes f n start) ≡ trailer_length
unfolding trailer_bytes bytes
length-trailer_bytes f n start = let e = length-magic f in omega arith

-- the trailer's numbers and its mark, stored one after the other
pub put-trailer : (f : Format) (s : List ℕ) (at n start : ℕ) → at + trailer_length ≤ length s
    → sets (put 4 (put 2 (put 2 s at n) (at + at_start) start) (at + at_distance) (length_of_record f * n)) (at + at_mark) (magic f)
    ≡ take at s ++ (trailer_bytes f n start ++ drop (at + trailer_length) s)
unfolding put trailer_bytes magic
put-trailer Format.Narrow s at n start h =
    rw (add-two at, add-four at, add_eight at)
    (sets-eq (trailer_bytes Format.Narrow n start) s at h ∙ append_assoc (take at s) (trailer_bytes Format.Narrow n start) (drop (at + trailer_length) s))
put-trailer Format.Wide s at n start h =
    rw (add-two at, add-four at, add_eight at)
    (sets-eq (trailer_bytes Format.Wide n start) s at h ∙ append_assoc (take at s) (trailer_bytes Format.Wide n start) (drop (at + trailer_length) s))

-- ---- what check reads after the bytes rs of n rules, from the trailer that seal writes
module _ (f : Format) (rs : List ℕ) (n start : ℕ) where
  trailer-at : trailer_at (rs ++ trailer_bytes f n start) ≡ length rs
  unfolding trailer_at
  trailer-at = omega (arith, length-append rs (trailer_bytes f n start), length-trailer_bytes f n start)

  field : (w k : ℕ) → number w (rs ++ trailer_bytes f n start) (trailer_at (rs ++ trailer_bytes f n start) + k) ≡ number w (trailer_bytes f n start) k
  field w k = ap (λ (x : ℕ). number w (rs ++ trailer_bytes f n start) (x + k)) trailer-at ∙ number-after w rs (trailer_bytes f n start) k

  written_count : n < base ^ 2 → count_of (rs ++ trailer_bytes f n start) ≡ n
  unfolding count_of trailer_bytes
  written_count h =
      ap (number 2 (rs ++ trailer_bytes f n start)) (sym (add-zero (trailer_at (rs ++ trailer_bytes f n start))))
      ∙ field 2 0
      ∙ number-bytes 2 n [] (bytes 2 start ++ (bytes 4 (length_of_record f * n) ++ magic f)) 0 refl h

  written_start : start < base ^ 2 → start_of (rs ++ trailer_bytes f n start) ≡ start
  unfolding start_of trailer_bytes
  written_start h = field 2 at_start ∙ number-bytes 2 start (bytes 2 n) (bytes 4 (length_of_record f * n) ++ magic f) 2 refl h

  written-distance : n < base ^ 2 → distance_of (rs ++ trailer_bytes f n start) ≡ length_of_record f * n
  unfolding distance_of trailer_bytes
  written-distance h = let most = records-most f n in field 4 at_distance ∙ number-bytes 4 (length_of_record f * n) (bytes 2 n ++ bytes 2 start) (magic f) 4 refl (omega arith)

  written_as : (g : Format) → marked_as g (rs ++ trailer_bytes f n start) ≡ same (magic f) (magic g)
  unfolding marked_as trailer_bytes
  written_as g =
      ap (λ (x : ℕ). same (drop (x + at_mark) (rs ++ trailer_bytes f n start)) (magic g)) trailer-at
      ∙ ap (λ (l : List ℕ). same l (magic g)) (drop-append-add rs (trailer_bytes f n start) at_mark)

  pub written-format : format_of (rs ++ trailer_bytes f n start) ≡ f
  unfolding format_of
  written-format = rw (written_as Format.Wide) (its_own f)
    where
      its_own : (g : Format) → cond (same (magic g) (magic Format.Wide)) Format.Wide Format.Narrow ≡ g
      its_own Format.Narrow = refl
      its_own Format.Wide = refl

  written-mark : marked (rs ++ trailer_bytes f n start) ≡ true
  unfolding marked
  written-mark = rw (written_as Format.Narrow, written_as Format.Wide) (one_of f)
    where
      one_of : (g : Format) → (same (magic g) (magic Format.Narrow) || same (magic g) (magic Format.Wide)) ≡ true
      one_of Format.Narrow = refl
      one_of Format.Wide = refl

  module _ (full : length rs ≡ length_of_record f * n) (small : n < base ^ 2) where
    pub written-records : records_of (rs ++ trailer_bytes f n start) ≡ records_from f rs 0 n
    unfolding records_of first_at
    written-records =
        let s = rs ++ trailer_bytes f n start in
        let e : trailer_at s - distance_of s ≡ 0 = omega (arith, trailer-at, written-distance small) in
        ap (λ (g : Format). records_from g s (trailer_at s - distance_of s) (count_of s)) written-format
        ∙ ap₂ (records_from f s) e (written_count small)
        ∙ sym (records-take f s (length rs) 0 n (omega arith))
        ∙ ap (λ (l : List ℕ). records_from f l 0 n) (take-append_seam rs (trailer_bytes f n start))

    pub written-checked : (most : ℕ) → start < base ^ 2 → in_limits most n ≡ true
        → checked_up_to most (rs ++ trailer_bytes f n start) ≡ accepted n start (judged f (records_from f rs 0 n) start)
    unfolding answer
    written-checked most below limits =
        let s = rs ++ trailer_bytes f n start in
        let long : leb trailer_length (length s) ≡ true =
        le-leb trailer_length (length s) (omega (arith, length-append rs (trailer_bytes f n start), length-trailer_bytes f n start))
        in
        let within : leb (length_of_record f * n) (trailer_at s) ≡ true = le-leb (length_of_record f * n) (trailer_at s) (omega (arith, trailer-at)) in
        let same-distance : eqb (length_of_record f * n) (length_of_record f * n) ≡ true = eq-eqb (length_of_record f * n) (length_of_record f * n) refl in
        rw (checked-answer most s, written-format, written_count small, written_start below, written-distance small, written-mark, written-records, long, within, limits, same-distance)

-- ---- the other way round
pub same_lists : (a b : List ℕ) → same a b ≡ true → a ≡ b
unfolding same
same_lists [] [] h = refl
same_lists [] (y ∷ ys) h = let z : ◌≡◌ {A = ℕ} 0 1 = cc in absurd (omega arith)
same_lists (x ∷ xs) [] h = let z : ◌≡◌ {A = ℕ} 0 1 = cc in absurd (omega arith)
same_lists (x ∷ xs) (y ∷ ys) h =
    let q = (and-eq-true_iff (eqb x y) (same xs ys)).0 h in
    ap₂ (λ (z : ℕ) (zs : List ℕ). z ∷ zs) (eqb-true x y q.0) (same_lists xs ys q.1)

-- the last ten bytes, by the numbers that they hold
pub last-parts : (s : List ℕ) (k : ℕ) → Bytes s → k + trailer_length ≡ length s
    → bytes 2 (number 2 s k) ++ (bytes 2 (number 2 s (k + at_start)) ++ (bytes 4 (number 4 s (k + at_distance)) ++ drop (k + at_mark) s)) ≡ drop k s
last-parts s k bs e =
    let short : (j : ℕ) → length (drop (k + j) s) ≤ trailer_length - j = λ j. omega (arith, length-drop (k + j) s) in
    read-part 2 8 s k (k + at_start) _ bs refl (omega arith)
    (read-part 2 6 s (k + at_start) (k + at_distance) _ bs (omega arith) (omega arith)
    (read-part 4 2 s (k + at_distance) (k + at_mark) _ bs (omega arith) (omega arith) (sym (take_all 2 (drop (k + at_mark) s) (short at_mark)))))
    ∙ take_all trailer_length (drop k s) (omega (arith, length-drop k s))
