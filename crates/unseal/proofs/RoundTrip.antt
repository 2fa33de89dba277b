-- Sealing and unsealing undo each other, whichever the mark. A record that was read writes its own bytes, so a sealed plan is the rule words
-- with a trailer after them, and check reads from that trailer what seal wrote. All over the format. Assumes nothing.
use Rattle.std.specs.Prelude.{Result, Ok}
use Rattle.refusal.specs.declared.Refusal.{Refusal}
use Prim.Native.Nat.{ℕ, ◌+◌, ◌-◌, ◌*◌, ◌%◌, ◌^◌, ◌≤◌, ◌<◌}
use mathlib.Core.Bool.{true, and-eq-true_iff}
use mathlib.Core.List.{List, ◌++◌}
use mathlib.Core.Path.{◌≡◌, refl, sym, ap, ap₂, ◌∙◌}
use native.Mathlib.Omega.{arith}
use lib.Dec.{leb, eqb}
use lib.ListN.{length, take, drop, length-append, take-append-drop}
use lib.Seq.{take-append_seam, length-take-le, take_at, take_all}
use borrow.Author.Tests.{le-leb, eq-eqb, leb-true}
use Rattle.words.specs.Number.{number, bytes, base, word_count}
use Rattle.record.specs.declared.Format.{Format}
use Rattle.record.specs.Format.{word_length, length_of_record, record_words}
use Rattle.record.specs.Records.{records_from, records_bytes}
use Rattle.plan.specs.Check.{trailer_length, at_start, at_distance, at_mark, magic, trailer_bytes, most_rules, trailer_at, count_of, start_of, distance_of, marked_as, format_of, first_at, records_of, accepted, in_limits, checked_up_to, checked, plan_bytes}
use Rattle.seal.specs.Seal.{format_for, is_length, given_count, given, roomed, sealed_up_to, sealed, output_as, sealed_output}
use Rattle.words.specs.Front.{in_front}
use Rattle.plan.specs.Written.{output_after}
use Rattle.unseal.specs.Unseal.{words_roomed, unsealed, words_after, unsealed_output}
use Rattle.plan.proofs.Sound.{Plan, checked-plan}
use Rattle.plan.proofs.Checking.{marked-format}
use Rattle.record.proofs.Records.{records-length}
use Rattle.record.proofs.RecordBytes.{Bytes, records-take, records-bytes}
use Rattle.plan.proofs.TrailerBytes.{length-trailer_bytes, written-format, written-records, written-checked, last-parts, same_lists}
use Rattle.seal.proofs.Sealed.{Sealed, sealed-facts, seal_answer, sealed-answer, sealed-passed, sealed-length, sealed-output, length-for, for-length, given-fits, words-whole}
use Rattle.unseal.proofs.Unsealing.{unsealed-facts}

module _ (f : Format) where
  -- ---- a plan that was sealed
  front : List ℕ → List ℕ
  front words = take (length_of_record f * given_count f words) words

  fits : (words : List ℕ) → length_of_record f * given_count f words ≤ length words
  fits words = given-fits f words _ refl

  length_front : (words : List ℕ) → length (front words) ≡ length_of_record f * given_count f words
  unfolding front
  length_front words = length-take-le (length_of_record f * given_count f words) words (fits words)

  given-records : (words : List ℕ) → records_from f (front words) 0 (given_count f words) ≡ given f words
  unfolding front given
  given-records words = records-take f words (length_of_record f * given_count f words) 0 (given_count f words) (omega arith)

  words-bytes : (words : List ℕ) → Bytes words → records_bytes f (given f words) ≡ front words
  unfolding given front
  words-bytes words bs = records-bytes f words 0 (given_count f words) bs (omega (arith, fits words))

  given-bytes : (words : List ℕ) (start : ℕ) → Bytes words → plan_bytes f (given f words) start ≡ front words ++ trailer_bytes f (given_count f words) start
  unfolding plan_bytes given
  given-bytes words start bs =
      ap₂ (λ (l : List ℕ) (n : ℕ). l ++ trailer_bytes f n start) (words-bytes words bs) (records-length f words 0 (given_count f words))

  module _ (most : ℕ) (words : List ℕ) (start : ℕ) (out : List ℕ) (m : ℕ) (bs : Bytes words) (q : Sealed f most words start out m) where
    -- it is the rule words and a trailer
    plan-is : take m (output_as (Ok m) f words start out) ≡ front words ++ trailer_bytes f (given_count f words) start
    unfolding output_as output_after in_front
    plan-is =
        let t = trailer_bytes f (given_count f words) start in
        rw (given-bytes words start bs)
        (take_at (front words ++ t) _ m (length-append (front words) t ∙ omega (arith, length_front words, length-trailer_bytes f (given_count f words) start, q.size)))

    given-small : most < base ^ 2 → given_count f words < base ^ 2
    unfolding in_limits
    given-small few =
        let n = given_count f words in
        omega (arith, leb-true n most ((and-eq-true_iff (leb 1 n) (leb n most)).0 q.limits).1)

    plan-format : format_of (take m (output_as (Ok m) f words start out)) ≡ f
    plan-format = rw plan-is (written-format f (front words) (given_count f words) start)

    plan-records : most < base ^ 2 → records_of (take m (output_as (Ok m) f words start out)) ≡ given f words
    plan-records few =
        rw plan-is (written-records f (front words) (given_count f words) start (length_front words) (given-small few) ∙ given-records words)

    plan-checked : most < base ^ 2 → start < base ^ 2
        → checked_up_to most (take m (output_as (Ok m) f words start out)) ≡ Ok (record { n = (given_count f words); start = start })
    unfolding accepted
    plan-checked few below =
        let e = written-checked f (front words) (given_count f words) start (length_front words) (given-small few) most below q.limits in
        rw (plan-is, e, given-records words, q.fine)

-- ---- an accepted plan with no prefix; f is its format
module _ (most : ℕ) (s : List ℕ) (n start : ℕ) (bs : Bytes s) (q : Plan most s n start) (alone : length s ≡ length_of_record (format_of s) * n + trailer_length) where
  abbrev f : Format
  f = format_of s

  alone_at : trailer_at s ≡ length_of_record f * n
  unfolding trailer_at
  alone_at = omega arith

  alone-records : records_of s ≡ records_from f s 0 n
  unfolding records_of first_at
  alone-records =
      let z : trailer_at s - distance_of s ≡ 0 = omega (arith, alone_at, q.distance) in
      ap₂ (records_from f s) z (sym q.count)

  -- its trailer is the one that seal writes
  pub alone-trailer : drop (length_of_record f * n) s ≡ trailer_bytes f n start
  unfolding trailer_bytes count_of start_of distance_of marked_as
  alone-trailer =
      let k = length_of_record f * n in
      let marks : marked_as f s ≡ true = sym (marked-format s) ∙ q.magical in
      let m : drop (k + at_mark) s ≡ magic f = rw alone_at at (same_lists (drop (trailer_at s + at_mark) s) (magic f) marks) in
      let d : number 4 s (k + at_distance) ≡ k = rw alone_at at q.distance in
      let c : number 2 s k ≡ n = rw alone_at at (sym q.count) in
      let b : number 2 s (k + at_start) ≡ start = rw alone_at at (sym q.begins) in
      sym (last-parts s k bs (sym alone)) ∙ (λ i. bytes 2 (c i) ++ (bytes 2 (b i) ++ (bytes 4 (d i) ++ m i)))

  pub alone-words : records_bytes f (records_of s) ≡ take (length_of_record f * n) s
  alone-words = rw alone-records (records-bytes f s 0 n bs (omega arith))

  -- sealing its rule words gives it back
  module _ (words : List ℕ) (same-words : words ≡ take (length_of_record f * n) s) where
    alone-length : length words ≡ length_of_record f * n
    alone-length = ap length same-words ∙ length-take-le (length_of_record f * n) s (omega arith)

    alone-count : given_count f words ≡ n
    unfolding given_count
    alone-count = (words-whole f n (length words) alone-length).0

    alone-given : given f words ≡ records_of s
    unfolding given
    alone-given =
        ap₂ (λ (x : List ℕ) (k : ℕ). records_from f x 0 k) same-words alone-count ∙ records-take f s (length_of_record f * n) 0 n (omega arith) ∙ sym alone-records

    alone-sealed : (other : List ℕ) → length s ≤ length other → sealed_up_to most f words start other ≡ Ok (length s)
    unfolding seal_answer in_limits roomed
    alone-sealed other room =
        let z : eqb (word_count words % record_words f) 0 ≡ true = eq-eqb _ 0 (words-whole f n (length words) alone-length).1 in
        rw (sealed-answer f most words start other, z, alone-count, alone-given, q.fine, le-leb 1 n q.least, le-leb n most q.greatest, ← alone, le-leb (length s) (length other) room)

    alone-bytes : plan_bytes f (given f words) start ≡ s
    unfolding plan_bytes
    alone-bytes = rw (alone-given, alone-words, q.records, ← alone-trailer) (take-append-drop (length_of_record f * n) s)

-- ---- sealing words with a record length l, and unsealing the plan
module _ (words : List ℕ) (l start : ℕ) (out : List ℕ) (m : ℕ) (bs : Bytes words) (below : start < base ^ 2) (h : sealed words l start out ≡ Ok m) where
  abbrev format : Format
  format = format_for l

  abbrev count : ℕ
  count = given_count (format_for l) words

  -- l is that format's record length
  pub seal-length : length_of_record format ≡ l
  seal-length = for-length l (sealed-passed words l start out m h).0

  sealed-plan : Sealed format most_rules words start out m
  sealed-plan = sealed-facts format most_rules words start out m (sealed-passed words l start out m h).1

  output-is : sealed_output words l start out ≡ output_as (Ok m) format words start out
  unfolding sealed_output
  output-is = ap (λ (r : Result ℕ Refusal). output_as r format words start out) h

  -- check accepts what seal wrote, with the same number of rules and the same start
  pub seal-then-check : checked (take m (sealed_output words l start out)) ≡ Ok (record { n = count; start = start })
  unfolding checked
  seal-then-check = rw output-is (plan-checked format most_rules words start out m bs sealed-plan (omega arith) below)

  -- in the format of the record length
  pub sealed-format : format_of (take m (sealed_output words l start out)) ≡ format
  sealed-format = rw output-is (plan-format format most_rules words start out m bs sealed-plan)

  sealed-records : records_of (take m (sealed_output words l start out)) ≡ given format words
  sealed-records = rw output-is (plan-records format most_rules words start out m bs sealed-plan (omega arith))

  -- the records are all the words that were counted, two bytes for each: of what seal was given it drops nothing but an odd last byte
  pub seal-drops-none : l * count ≡ word_length * word_count words
  seal-drops-none = rw seal-length at sealed-plan.none_left

  -- unseal gives the same record length too
  module _ (other : List ℕ) (room : record_words format * count ≤ word_count other) where
    pub seal-then-unseal-answer : unsealed (take m (sealed_output words l start out)) other ≡ Ok (record { length = l; n = count; start = start })
    unfolding unsealed words_roomed
    seal-then-unseal-answer =
        rw (seal-then-check, sealed-format, le-leb _ _ room) (ap (λ (k : ℕ). Ok (record { length = k; n = count; start = start })) seal-length)

    -- and writes the words that were sealed, and leaves later ones
    pub seal-then-unseal : unsealed_output (take m (sealed_output words l start out)) other ≡ in_front (take (l * count) words) other
    unfolding unsealed_output words_after front
    seal-then-unseal =
        rw (seal-then-unseal-answer, sealed-format, sealed-records, words-bytes format words bs, seal-length)

    pub seal-then-unseal-words : take (l * count) (unsealed_output (take m (sealed_output words l start out)) other) ≡ take (l * count) words
    unfolding in_front
    seal-then-unseal-words =
        let long : l * count ≤ length words = rw seal-length at (fits format words) in
        rw seal-then-unseal (take_at (take (l * count) words) _ (l * count) (length-take-le (l * count) words long))

    -- where no odd byte was given, these are the words as they were given
    pub seal-then-unseal-all : length words ≡ word_length * word_count words
        → unsealed_output (take m (sealed_output words l start out)) other ≡ in_front words other
    seal-then-unseal-all even =
        let all : take (l * count) words ≡ words = take_all (l * count) words (omega (arith, even, seal-drops-none)) in
        seal-then-unseal ∙ ap (λ (ws : List ℕ). in_front ws other) all

-- ---- unsealing an accepted plan with no prefix, and sealing the words with the record length that unseal gave, gives back the plan's bytes
module _ (s out : List ℕ) (l n start : ℕ) (bs : Bytes s) (h : unsealed s out ≡ Ok (record { length = l; n = n; start = start })) (alone : length s ≡ l * n + trailer_length) where
  accepts : Plan most_rules s n start
  accepts = checked-plan s n start (unsealed-facts s out l n start h).accepts

  length-is : l ≡ length_of_record (format_of s)
  length-is = (unsealed-facts s out l n start h).size

  format-is : (is_length l ≡ true) × (format_of s ≡ format_for l)
  format-is = rw length-is (let q = length-for (format_of s) in (q.0, sym q.1))

  alone-so : length s ≡ length_of_record (format_of s) * n + trailer_length
  alone-so = rw length-is at alone

  pub unsealed-words : take (l * n) (unsealed_output s out) ≡ take (l * n) s
  unfolding unsealed_output words_after in_front
  unsealed-words =
      rw (h, alone-words most_rules s n start bs accepts alone-so, ← length-is)
      (take_at (take (l * n) s) _ (l * n) (length-take-le (l * n) s (omega arith)))

  rules-are : take (l * n) (unsealed_output s out) ≡ take (length_of_record (format_of s) * n) s
  rules-are = unsealed-words ∙ ap (λ (k : ℕ). take (k * n) s) length-is

  module _ (other : List ℕ) (fits : length s ≤ length other) where
    pub unseal-then-seal-answer : sealed (take (l * n) (unsealed_output s out)) l start other ≡ Ok (length s)
    unseal-then-seal-answer =
        sym (sealed-length (take (l * n) (unsealed_output s out)) l start other (format_of s) format-is.1 format-is.0)
        ∙ alone-sealed most_rules s n start bs accepts alone-so _ rules-are other fits

    pub unseal-then-seal : sealed_output (take (l * n) (unsealed_output s out)) l start other ≡ in_front s other
    unfolding output_as output_after
    unseal-then-seal =
        sym (sealed-output (take (l * n) (unsealed_output s out)) l start other (format_of s) _ _ format-is.1 (sym unseal-then-seal-answer) refl)
        ∙ rw (alone-bytes most_rules s n start bs accepts alone-so _ rules-are)

    pub unseal-then-seal-bytes : take (length s) (sealed_output (take (l * n) (unsealed_output s out)) l start other) ≡ s
    unfolding in_front
    unseal-then-seal-bytes = rw unseal-then-seal (take-append_seam s (drop (length s) other))
