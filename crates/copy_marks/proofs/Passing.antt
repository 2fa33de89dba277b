-- The first pass so far: from the marks as they are, the places below i go on to the last. Assumes nothing.
use Prim.Native.Nat.{ℕ, suc, ◌*◌, ◌≤◌, ◌<◌}
use native.Mathlib.Omega.{arith}
use mathlib.Core.Path.{◌≡◌, sym, ◌∙◌}
use mathlib.Core.List.{List}
use lib.ListN.{length}
use lib.Dec.{eqb}
use Rattle.words.proofs.Within.{within_none, within_both}
use Rattle.rule.specs.Sound.{rule}
use Rattle.copy_variants.proofs.Table.{variants_length}
use Rattle.copy_passes.specs.Passes.{Placing}
use Rattle.copy_passes.proofs.Turns.{Marking, marking-first, marking-more, marking-last}
use Rattle.copy_rows.specs.Table.{variants_at}
use Rattle.copy_marks.specs.Marks.{marked, variant_in, variants_in, places_in, Markable, OnlyMarks, Passed, MarkedAll}
use Rattle.copy_marks.proofs.Marks.{as-rule, kept_variant, kept-places}

pub record Passing (n i : ℕ) (s t : List ℕ) : Type 0 where
  pub below : i ≤ 3 * n
  pub only : OnlyMarks n s t
  pub marking : (start : ℕ) (place : ℕ → ℕ) → Placing (variants_in s n) (places_in s n) place
      → ((k : ℕ) → k < 3 * n → marked s n k ≡ eqb k start) → Marking (variants_in s n) (places_in s n) start (marked t n) i

module _ {n : ℕ} {s : List ℕ} (g : Markable s n) where
  long : length (variants_in s n) ≡ 3 * n
  long = variants_length (variants_at s) n

  pub passing-start : {i : ℕ} → i ≡ 3 * n → Passing n i s s
  passing-start {i} e =
      record {
        below = omega arith;
        only = within_none _ _ s;
        marking = λ start place P h. rw (e ∙ sym long) (marking-first g.ranged P start (marked s n) (λ k l. h k (omega (arith, l, long))));
      }

  -- one place less
  pub passing-more : {i j k : ℕ} {t u : List ℕ} → Passing n i s t → i ≡ suc j → k ≡ places_in t n j → Passed n k t u → Passing n j s u
  passing-more {i} {j} {k} {t} {u} p e q new =
      let l : j < 3 * n = omega (arith, p.below) in
      let at : k ≡ places_in s n j = q ∙ kept-places n p.only j in
      record {
        below = omega (arith, p.below);
        only = within_both p.only new.only;
        marking = λ start place P h.
            let inside : places_in s n j < 3 * n = rw long at (P.inside j (rw long l)) in
            let same : variant_in t (places_in s n j) ≡ rule (variants_in s n) (places_in s n j) = kept_variant n p.only (places_in s n j) inside ∙ as-rule s n (places_in s n j) inside in
            marking-more g.ranged P start (marked t n) (marked u n) j (rw long l) (rw e at (p.marking start place P h))
            (λ b m. (rw (at, same) at (new.marks b)));
      }

  pub passing-end : {i : ℕ} {t : List ℕ} → Passing n i s t → i ≡ 0 → MarkedAll n s t
  passing-end {i} {t} p e =
      record {
        only = p.only;
        marks = λ start place P h k l. marking-last g.ranged P start (marked t n) (rw e at (p.marking start place P h)) k (rw long l);
      }
