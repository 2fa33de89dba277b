-- Laws of the lengths of a format. Above this crate a format is known by them: a record has its words, at most ten bytes, and records one after
-- another lie apart. Assumes nothing.
use Prim.Native.Nat.{ℕ, ◌+◌, ◌*◌, ◌≤◌, ◌<◌}
use native.Mathlib.Omega.{arith}
use mathlib.Core.Path.{◌≡◌, refl}
use Rattle.record.specs.declared.Format.{Format}
use Rattle.record.specs.Format.{word_length, high_length, length_of_record, record_words, largest_label, most_label}

pub narrow_high : high_length Format.Narrow ≡ 0
unfolding high_length
narrow_high = refl

pub high-short : (f : Format) → high_length f ≤ 2
unfolding high_length
high-short Format.Narrow = omega arith
high-short Format.Wide = omega arith

pub words-length : (f : Format) → length_of_record f ≡ word_length * record_words f
unfolding high_length record_words
words-length Format.Narrow = refl
words-length Format.Wide = refl

-- labels have three bytes at most
pub label-most : (f : Format) → most_label f ≤ largest_label
unfolding most_label
label-most Format.Narrow = omega arith
label-most Format.Wide = omega arith

pub words-least : (f : Format) → 4 ≤ record_words f
words-least f = let e = words-length f in omega arith

-- so many records as there are numbers below n, and one more after i of them
pub records-most : (f : Format) (n : ℕ) → length_of_record f * n ≤ 10 * n
unfolding high_length
records-most Format.Narrow n = omega arith
records-most Format.Wide n = omega arith

pub records-least : (f : Format) (n : ℕ) → 8 * n ≤ length_of_record f * n
records-least f n = omega arith

pub record-lies : (f : Format) {i n : ℕ} → i < n → length_of_record f * i + length_of_record f ≤ length_of_record f * n
unfolding high_length
record-lies Format.Narrow l = omega arith
record-lies Format.Wide l = omega arith
