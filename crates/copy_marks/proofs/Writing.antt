-- One variant written, or passed over. Assumes nothing.
use Prim.Native.Nat.{ℕ, ◌+◌, ◌*◌, ◌≤◌, ◌<◌}
use native.Mathlib.Omega.{arith}
use mathlib.Core.Bool.{Bool, true, false, false≢true}
use mathlib.Core.Path.{◌≡◌, refl, sym, ap, ◌∙◌}
use mathlib.Core.List.{List, ◌++◌}
use lib.ListN.{take, drop}
use Rattle.words.specs.Put.{put}
use Rattle.record.specs.declared.Format.{Format}
use Rattle.record.specs.declared.Record.{Record}
use Rattle.record.specs.Format.{high_length, length_of_record}
use Rattle.record.specs.Record.{record_bytes}
use Rattle.rule.specs.declared.Rule.{Rule}
use Rattle.rule.specs.Rule.{encode}
use Rattle.copy_passes.specs.Passes.{renamed}
use Rattle.copy_marks.specs.Marks.{mark_at, marked, number_in, variant_in}
use Rattle.copy_marks.specs.Written.{VariantWritten}

-- a record more has room
pub wide_fits : (n m room : ℕ) → length_of_record Format.Wide * (3 * n) ≤ room → m < 3 * n → 10 * m + length_of_record Format.Wide ≤ room
unfolding high_length
wide_fits n m room space l = omega (arith, space, l)

pub variant-written : {b : Bool} {v x : Rule} {w : Record} {t out' : List ℕ} (n k m : ℕ) (s out : List ℕ) → b ≡ marked s n k → b ≡ true → v ≡ variant_in s k
    → x ≡ renamed (number_in s n) v → w ≡ encode x
    → out' ≡ take (10 * m) out ++ (record_bytes Format.Wide w ++ drop (10 * m + length_of_record Format.Wide) out)
    → t ≡ put 2 s (mark_at n k) (m + 1) → VariantWritten n k m s out (m + 1) t out'
unfolding high_length
variant-written {b} {v} {x} {w} n k m s out e u p q r o z =
    let same : w ≡ encode (renamed (number_in s n) (variant_in s k)) = r ∙ ap encode (q ∙ ap (renamed (number_in s n)) p) in
    record {
      written = λ h. (z, o ∙ ap (λ (y : Record). take (10 * m) out ++ (record_bytes Format.Wide y ++ drop (10 * m + length_of_record Format.Wide) out)) same, refl);
      skipped = λ h. absurd (false≢true (sym h ∙ sym e ∙ u));
    }

pub variant-skipped : {b : Bool} (n k m : ℕ) (s out : List ℕ) → b ≡ marked s n k → b ≡ false → VariantWritten n k m s out m s out
variant-skipped n k m s out e u =
    record { written = λ h. absurd (false≢true (sym u ∙ e ∙ h)); skipped = λ h. (refl, refl, refl) }
