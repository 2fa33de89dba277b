-- Laws of the records in a list of bytes. A record looks only at its own bytes, and the i-th of several records begins i record lengths
-- on, both by one induction on how many there are. Words stored one after the other are a record's bytes. All over the format.
-- Assumes nothing.
use Prim.Native.Nat.{ℕ, zero, suc, ◌+◌, ◌*◌, ◌≤◌, ◌<◌}
use mathlib.Core.Path.{◌≡◌, refl, ap, ap₂, ◌∙◌}
use mathlib.Core.List.{List, ◌∷◌, ◌++◌, append_assoc}
use native.Mathlib.Nat.{add_assoc}
use native.Mathlib.Omega.{arith}
use lib.ListN.{length, get_or, take, drop}
use lib.Seq.{get_or-append-add}
use Rattle.words.specs.Number.{number, bytes}
use Rattle.words.specs.Put.{put}
use Rattle.words.proofs.Laws.{number-agrees, four-put, put-after}
use Rattle.record.specs.declared.Format.{Format}
use Rattle.record.specs.declared.Record.{Record}
use Rattle.record.specs.Format.{word_length, high_length, length_of_record}
use Rattle.record.specs.Record.{record_at, record_bytes}
use Rattle.record.specs.Records.{records_from, record_in, kind_at}

-- the bytes of the first four words
four-long : (w : Record) → length (bytes 2 w.kind ++ (bytes 2 w.one ++ (bytes 2 w.two ++ bytes 2 w.three))) ≡ 8
unfolding bytes
four-long w = refl

-- a record depends only on its own bytes
module _ (f : Format) where
  pub record-agrees : (s t : List ℕ) (at to : ℕ) → ((i : ℕ) → i < length_of_record f → get_or s (at + i) 0 ≡ get_or t (to + i) 0)
      → record_at f s at ≡ record_at f t to
  unfolding record_at
  record-agrees s t at to same = λ i.
      record {
        kind = first i;
        one = part word_length word_length (omega arith) i;
        two = part word_length (2 * word_length) (omega arith) i;
        three = part word_length (3 * word_length) (omega arith) i;
        high = part (high_length f) (4 * word_length) (omega arith) i;
      }
    where
      first : number word_length s at ≡ number word_length t to
      first = number-agrees word_length s t at to (λ i below. same i (omega arith))

      part : (w k : ℕ) → k + w ≤ length_of_record f → number w s (at + k) ≡ number w t (to + k)
      part w k fits = number-agrees w s t (at + k) (to + k) (λ i below. rw (add_assoc at k i, add_assoc to k i) (same (k + i) (omega arith)))

  -- and so do several
  pub records-agree : (n : ℕ) (s t : List ℕ) (at to : ℕ) → ((i : ℕ) → i < length_of_record f * n → get_or s (at + i) 0 ≡ get_or t (to + i) 0)
      → records_from f s at n ≡ records_from f t to n
  unfolding records_from
  records-agree zero s t at to same = refl
  records-agree (suc n) s t at to same =
      ap₂ ◌∷◌
      (record-agrees s t at to (λ i below. same i (omega arith)))
      (records-agree n s t (at + length_of_record f) (to + length_of_record f)
      (λ i below. rw (add_assoc at (length_of_record f) i, add_assoc to (length_of_record f) i) (same (length_of_record f + i) (omega arith))))

  pub records-after : (p s : List ℕ) (at n : ℕ) → records_from f (p ++ s) (length p + at) n ≡ records_from f s at n
  records-after p s at n =
      records-agree n (p ++ s) s (length p + at) at (λ i below. rw (add_assoc (length p) at i) (get_or-append-add p s (at + i) 0))

  pub records-length : (s : List ℕ) (at n : ℕ) → length (records_from f s at n) ≡ n
  unfolding records_from
  records-length s at zero = refl
  records-length s at (suc n) = ap suc (records-length s (at + length_of_record f) n)

  -- the record with a number
  pub records-at : (s : List ℕ) (at n i : ℕ) → i < n → record_in (records_from f s at n) i ≡ record_at f s (at + length_of_record f * i)
  unfolding records_from record_in
  records-at s at zero i below = absurd (omega arith)
  records-at s at (suc n) zero below = ap (record_at f s) (omega arith)
  records-at s at (suc n) (suc i) below = records-at s (at + length_of_record f) n i (omega arith) ∙ ap (record_at f s) (omega arith)

  -- its kind is its first word
  pub kind-at : (s : List ℕ) (at n i : ℕ) → i < n → kind_at (records_from f s at n) i ≡ number word_length s (at + length_of_record f * i)
  unfolding kind_at record_at
  kind-at s at n i below = ap (λ (w : Record). w.kind) (records-at s at n i below)

  -- words stored one after the other
  pub record-put : (w : Record) (s : List ℕ) (at : ℕ) → at + length_of_record f ≤ length s
      → put (high_length f)
      (put word_length (put word_length (put word_length (put word_length s at w.kind) (at + word_length) w.one) (at + 2 * word_length) w.two) (at + 3 * word_length) w.three)
      (at + 4 * word_length) w.high
      ≡ take at s ++ (record_bytes f w ++ drop (at + length_of_record f) s)
  unfolding record_bytes
  record-put w s at fits =
      let xs = bytes 2 w.kind ++ (bytes 2 w.one ++ (bytes 2 w.two ++ bytes 2 w.three)) in
      let end : at + 8 + high_length f ≡ at + length_of_record f = omega arith in
      ap (λ (l : List ℕ). put (high_length f) l (at + 8) w.high) (four-put s at w.kind w.one w.two w.three (omega arith))
      ∙ put-after (high_length f) s at 8 w.high xs (four-long w) (omega arith)
      ∙ rw (end, append_assoc, append_assoc, append_assoc)
