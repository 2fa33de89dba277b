-- Records written one after another at the front of a slice, over the format. Assumes nothing.
use Prim.Native.Nat.{ℕ, zero, suc, ◌+◌, ◌*◌}
use mathlib.Core.List.{List, [], ◌∷◌, ◌++◌, append_assoc, append-nil}
use mathlib.Core.Path.{◌≡◌, refl, sym, ap, ◌∙◌}
use native.Mathlib.Numerals.{add-one}
use native.Mathlib.Omega.{arith}
use lib.ListN.{length, take, drop}
use Rattle.record.specs.declared.Format.{Format}
use Rattle.record.specs.declared.Record.{Record}
use Rattle.record.specs.Format.{length_of_record}
use Rattle.record.specs.Record.{record_at, record_bytes}
use Rattle.record.specs.Records.{records_from, records_bytes}
use Rattle.words.specs.Front.{in_front}
use Rattle.words.proofs.Front.{in_front-more}
use Rattle.record.proofs.Records.{records-length}
use Rattle.record.proofs.RecordBytes.{length-record_bytes, length-records_bytes}

module _ (f : Format) where
  pub records-more : (s : List ℕ) (at i : ℕ) → records_from f s at (suc i) ≡ records_from f s at i ++ (record_at f s (at + length_of_record f * i) ∷ [])
  unfolding records_from
  records-more s at zero = let e : at + length_of_record f * 0 ≡ at = omega arith in ap (λ (k : ℕ). record_at f s k ∷ []) (sym e)
  records-more s at (suc i) =
      let e : at + length_of_record f + length_of_record f * i ≡ at + length_of_record f * suc i = omega arith in
      ap (λ (ws : List Record). record_at f s at ∷ ws) (records-more s (at + length_of_record f) i ∙ ap (λ (k : ℕ). records_from f s (at + length_of_record f) i ++ (record_at f s k ∷ [])) e)

  records_bytes-append : (vs ws : List Record) → records_bytes f (vs ++ ws) ≡ records_bytes f vs ++ records_bytes f ws
  unfolding records_bytes
  records_bytes-append [] ws = refl
  records_bytes-append (v ∷ vs) ws = ap (λ (l : List ℕ). record_bytes f v ++ l) (records_bytes-append vs ws) ∙ sym (append_assoc (record_bytes f v) (records_bytes f vs) (records_bytes f ws))

  records_bytes-more : (s : List ℕ) (at i : ℕ) → records_bytes f (records_from f s at (suc i)) ≡ records_bytes f (records_from f s at i) ++ record_bytes f (record_at f s (at + length_of_record f * i))
  unfolding records_bytes
  records_bytes-more s at i =
      let w = record_at f s (at + length_of_record f * i) in
      ap (records_bytes f) (records-more s at i)
      ∙ records_bytes-append (records_from f s at i) (w ∷ [])
      ∙ ap (λ (l : List ℕ). records_bytes f (records_from f s at i) ++ l) (append-nil (record_bytes f w))

  -- the first i records of s from at on, at the front of out
  unfoldable pub copied : List ℕ → ℕ → ℕ → List ℕ → List ℕ
  copied s at i out = in_front (records_bytes f (records_from f s at i)) out

  length-read : (s : List ℕ) (at i : ℕ) → length (records_bytes f (records_from f s at i)) ≡ length_of_record f * i
  length-read s at i = length-records_bytes f (records_from f s at i) ∙ ap (λ (k : ℕ). length_of_record f * k) (records-length f s at i)

  pub copied_none : (s : List ℕ) (at : ℕ) (out : List ℕ) → copied s at 0 out ≡ out
  unfolding copied records_from records_bytes in_front
  copied_none s at out = refl

  -- one record more
  pub copied_more : (s : List ℕ) (at i : ℕ) (out : List ℕ) (from : ℕ) → from ≡ at + length_of_record f * i
      → take (length_of_record f * i) (copied s at i out) ++ (record_bytes f (record_at f s from) ++ drop (length_of_record f * i + length_of_record f) (copied s at i out))
      ≡ copied s at (i + 1) out
  unfolding copied
  copied_more s at i out from e =
      let w = record_at f s (at + length_of_record f * i) in
      rw (e, add-one)
      (in_front-more (records_bytes f (records_from f s at i)) out (record_bytes f w) (length_of_record f * i) (length_of_record f) (length-read s at i) (length-record_bytes f w)
      ∙ ap (λ (l : List ℕ). in_front l out) (sym (records_bytes-more s at i)))
