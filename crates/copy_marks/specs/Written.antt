-- The second pass: the marked variants numbered and written, one wide record after another (document 02, Note 6: "a new wide plan").
use Rattle.std.specs.Prelude.{ℕ, ◌+◌, ◌*◌, ◌≤◌, ◌<◌, true, false, ◌≡◌, List, ◌++◌, map, length, take, drop}
use Rattle.words.specs.Put.{put}
use Rattle.words.specs.Front.{in_front}
use Rattle.record.specs.declared.Format.{Format}
use Rattle.record.specs.Format.{length_of_record}
use Rattle.record.specs.Record.{record_bytes}
use Rattle.record.specs.Records.{records_bytes}
use Rattle.rule.specs.declared.Rule.{Rule}
use Rattle.rule.specs.Rule.{encode}
use Rattle.copy_passes.specs.Passes.{Placing, renamed, reached_rules, reached_number}
use Rattle.copy_marks.specs.Marks.{mark_at, marked, number_in, variant_in, variants_in, places_in, Markable, OnlyMarks, HasMarks}

-- the bytes of rules as wide records
abbrev pub wide_bytes : List Rule → List ℕ
wide_bytes C = records_bytes Format.Wide (map encode C)

-- out with a rule written as its record number m
abbrev pub with_rule : List ℕ → ℕ → Rule → List ℕ
with_rule out m x =
    take (length_of_record Format.Wide * m) out
    ++ (record_bytes Format.Wide (encode x) ++ drop (length_of_record Format.Wide * m + length_of_record Format.Wide) out)

-- room for every variant of n rules
pub record Writable (t out : List ℕ) (n : ℕ) : Type 0 where
  pub markable : Markable t n
  pub space : length_of_record Format.Wide * (3 * n) ≤ length out

-- variant k after m written ones: if it is marked it gets number m, and is written with its names renumbered
pub record VariantWritten (n k m : ℕ) (s out : List ℕ) (m' : ℕ) (t out' : List ℕ) : Type 0 where
  pub written : marked s n k ≡ true
      → (t ≡ put 2 s (mark_at n k) (m + 1)) × (out' ≡ with_rule out m (renamed (number_in s n) (variant_in s k))) × (m' ≡ m + 1)
  pub skipped : marked s n k ≡ false → (t ≡ s) × (out' ≡ out) × (m' ≡ m)

-- m' variants are written: those that the start reaches, and each has its number
pub record Written (n : ℕ) (s out : List ℕ) (m' : ℕ) (t out' : List ℕ) : Type 0 where
  pub only : OnlyMarks n s t
  pub rules : (start : ℕ) (place : ℕ → ℕ) → Placing (variants_in s n) (places_in s n) place → HasMarks n start s s
      → (out' ≡ in_front (wide_bytes (reached_rules (variants_in s n) (places_in s n) place start)) out)
      × (m' ≡ length (reached_rules (variants_in s n) (places_in s n) place start))
  pub numbers : (start : ℕ) (place : ℕ → ℕ) → Placing (variants_in s n) (places_in s n) place → HasMarks n start s s
      → start < 3 * n → number_in t n start ≡ reached_number (variants_in s n) (places_in s n) place start start
