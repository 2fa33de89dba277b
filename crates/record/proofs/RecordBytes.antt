-- The bytes of records. A number that was read has the bytes that it was read from, so a record, which is numbers in a row, gives back its
-- own bytes, and so do several. All over the format. Assumes nothing.
use Prim.Native.Nat.{ℕ, zero, suc, ◌+◌, ◌*◌, ◌≤◌, ◌<◌}
use mathlib.Core.List.{List, [], ◌∷◌, ◌++◌}
use mathlib.Core.Path.{◌≡◌, refl, sym, ap, ap₂, ◌∙◌}
use native.Mathlib.Omega.{arith}
use lib.ListN.{length, get_or, take, drop, length-append}
use lib.Seq.{take-add, drop-drop, get_or-take}
use Rattle.words.specs.Number.{number, bytes, base}
use Rattle.words.proofs.Laws.{length-bytes, bytes-number}
use Rattle.record.specs.declared.Format.{Format}
use Rattle.record.specs.declared.Record.{Record}
use Rattle.record.specs.Format.{word_length, high_length, length_of_record}
use Rattle.record.specs.Record.{record_at, record_bytes}
use Rattle.record.specs.Records.{records_from, records_bytes}
use Rattle.record.proofs.Records.{records-agree}

-- every element is a byte
abbrev pub Bytes : List ℕ → Type 0
Bytes s = (i : ℕ) → get_or s i 0 < base

-- w bytes, and m bytes after them
part : (w m : ℕ) (s : List ℕ) (at : ℕ) → take w (drop at s) ++ take m (drop (at + w) s) ≡ take (w + m) (drop at s)
part w m s at = rw (← drop-drop w at s) (sym (take-add w m (drop at s)))

-- a number that was read, written before what follows it
pub read-part : (w m : ℕ) (s : List ℕ) (at to : ℕ) (x : List ℕ) → Bytes s → at + w ≡ to → to ≤ length s → x ≡ take m (drop to s)
    → bytes w (number w s at) ++ x ≡ take (w + m) (drop at s)
read-part w m s at to x b e h f =
    ap₂ (λ (y z : List ℕ). y ++ z) (bytes-number w s at (omega arith) b) (f ∙ ap (λ (k : ℕ). take m (drop k s)) (sym e)) ∙ part w m s at

-- four words that were read, as a stored cell's
pub four_bytes : (s : List ℕ) (at : ℕ) → Bytes s → at + 4 * word_length ≤ length s
    → bytes word_length (number word_length s at)
    ++ (bytes word_length (number word_length s (at + word_length))
    ++ (bytes word_length (number word_length s (at + 2 * word_length)) ++ bytes word_length (number word_length s (at + 3 * word_length))))
    ≡ take (4 * word_length) (drop at s)
four_bytes s at b h =
    read-part word_length (3 * word_length) s at (at + word_length) _ b refl (omega arith)
    (read-part word_length (2 * word_length) s (at + word_length) (at + 2 * word_length) _ b (omega arith) (omega arith)
    (read-part word_length word_length s (at + 2 * word_length) (at + 3 * word_length) _ b (omega arith) (omega arith)
    (bytes-number word_length s (at + 3 * word_length) (omega arith) b)))

module _ (f : Format) where
  pub records-take : (s : List ℕ) (m at n : ℕ) → at + length_of_record f * n ≤ m → records_from f (take m s) at n ≡ records_from f s at n
  records-take s m at n h =
      records-agree f n (take m s) s at at (λ i below. get_or-take m s (at + i) 0 (omega arith))

  pub length-record_bytes : (w : Record) → length (record_bytes f w) ≡ length_of_record f
  unfolding record_bytes bytes
  length-record_bytes w = let e = length-bytes (high_length f) w.high in omega arith

  pub length-records_bytes : (ws : List Record) → length (records_bytes f ws) ≡ length_of_record f * length ws
  unfolding records_bytes
  length-records_bytes [] = omega arith
  length-records_bytes (w ∷ ws) = length-append (record_bytes f w) (records_bytes f ws) ∙ omega (arith, length-record_bytes w, length-records_bytes ws)

  -- a record that was read writes the bytes that it was read from
  pub record-bytes : (s : List ℕ) (at : ℕ) → Bytes s → at + length_of_record f ≤ length s → record_bytes f (record_at f s at) ≡ take (length_of_record f) (drop at s)
  unfolding record_bytes record_at
  record-bytes s at b h =
      let e : word_length + (word_length + (word_length + (word_length + high_length f))) ≡ length_of_record f = omega arith in
      read-part word_length (word_length + (word_length + (word_length + high_length f))) s at (at + word_length) _ b refl (omega arith)
      (read-part word_length (word_length + (word_length + high_length f)) s (at + word_length) (at + 2 * word_length) _ b (omega arith) (omega arith)
      (read-part word_length (word_length + high_length f) s (at + 2 * word_length) (at + 3 * word_length) _ b (omega arith) (omega arith)
      (read-part word_length (high_length f) s (at + 3 * word_length) (at + 4 * word_length) _ b (omega arith) (omega arith)
      (bytes-number (high_length f) s (at + 4 * word_length) (omega arith) b))))
      ∙ ap (λ (m : ℕ). take m (drop at s)) e

  pub records-bytes : (s : List ℕ) (at n : ℕ) → Bytes s → at + length_of_record f * n ≤ length s → records_bytes f (records_from f s at n) ≡ take (length_of_record f * n) (drop at s)
  unfolding records_bytes records_from
  records-bytes s at zero b h = let e : length_of_record f * 0 ≡ 0 = omega arith in rw e
  records-bytes s at (suc n) b h =
      let e : length_of_record f + length_of_record f * n ≡ length_of_record f * suc n = omega arith in
      ap₂ (λ (x y : List ℕ). x ++ y) (record-bytes s at b (omega arith)) (records-bytes s (at + length_of_record f) n b (omega arith))
      ∙ part (length_of_record f) (length_of_record f * n) s at
      ∙ ap (λ (m : ℕ). take m (drop at s)) e
