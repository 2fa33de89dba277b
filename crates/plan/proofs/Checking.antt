-- Laws of check's answer, each for one step of the code: the mark, the distance, and what is left of the answer once the trailer is
-- read. Each holds by the clauses of the definition that it is about. Assumes nothing.
use Rattle.std.specs.Prelude.{Result, Err}
use Prim.Native.Nat.{ℕ, suc, ◌+◌, ◌-◌, ◌*◌, ◌≤◌, ◌<◌}
use mathlib.Core.Path.{◌≡◌, refl, sym, ap, ◌∙◌}
use mathlib.Core.Bool.{Bool, true, false, cond, ◌&&◌, ◌||◌, and-true, or-true, or-false}
use mathlib.Core.List.{List, [], ◌∷◌}
use native.Mathlib.Omega.{arith}
use borrow.Author.Tests.{le-leb, lt-leb}
use lib.ListN.{length, get_or, drop, drop_of_length-le}
use lib.Dec.{T, leb, eqb, eqb→eq, leb→le}
use mir.Facts.{and_yes}
use lib.Seq.{drop-cons}
use Rattle.refusal.specs.declared.Refusal.{Refusal}
use Rattle.record.specs.declared.Format.{Format}
use Rattle.record.specs.Format.{length_of_record}
use Rattle.record.specs.Records.{records_from}
use Rattle.judge.specs.Judge.{judged}
use Rattle.plan.specs.declared.Checked.{Checked}
use Rattle.plan.specs.Check.{trailer_length, at_mark, magic, same, trailer_at, count_of, start_of, distance_of, marked_as, marked, format_of, first_at, records_of, accepted, in_limits, checked_up_to}

-- the two mark bytes
two_bytes : (s : List ℕ) → trailer_length ≤ length s → (x y : ℕ)
    → same (drop (trailer_at s + at_mark) s) (x ∷ y ∷ [])
    ≡ (eqb (get_or s (length s - trailer_length + at_mark) 0) x && eqb (get_or s (length s - trailer_length + at_mark + 1) 0) y)
unfolding same trailer_at
two_bytes s long x y =
    let k : ℕ = length s - trailer_length + at_mark in
    let next : k + 1 ≡ suc k = omega arith in
    rw (drop-cons s k 0 (omega arith), drop-cons s (suc k) 0 (omega arith), drop_of_length-le s {i = suc (suc k)} (omega arith), next)
    (ap (λ (b : Bool). eqb (get_or s k 0) x && b) (and-true (eqb (get_or s (suc k) 0) y)))

pub marked-bytes : (f : Format) (s : List ℕ) → trailer_length ≤ length s
    → marked_as f s ≡ (eqb (get_or s (length s - trailer_length + at_mark) 0) (get_or (magic f) 0 0) && eqb (get_or s (length s - trailer_length + at_mark + 1) 0) (get_or (magic f) 1 0))
unfolding marked_as magic
marked-bytes Format.Narrow s long = two_bytes s long 0x6d 0x70
marked-bytes Format.Wide s long = two_bytes s long 0x6d 0x71

-- the mark is one of the two exactly when it is that of the plan's format
pub marked-format : (s : List ℕ) → marked s ≡ marked_as (format_of s) s
unfolding marked format_of
marked-format s = go (marked_as Format.Wide s) refl
  where
    go : (b : Bool) → marked_as Format.Wide s ≡ b → (marked_as Format.Narrow s || b) ≡ marked_as (cond b Format.Wide Format.Narrow) s
    go true e = or-true (marked_as Format.Narrow s) ∙ sym e
    go false e = or-false (marked_as Format.Narrow s)

-- a distance that passes its test is that of n rules, and doesn't go back too far
pub reached : (f : Format) (distance n end : ℕ) → (eqb distance (length_of_record f * n) && leb distance end) ≡ true → (distance ≡ length_of_record f * n) × (distance ≤ end)
reached f distance n end passed =
    let both : T (eqb distance (length_of_record f * n)) × T (leb distance end) = and_yes (eqb distance (length_of_record f * n)) (leb distance end) (rw passed tt) in
    (eqb→eq distance (length_of_record f * n) both.0, leb→le distance end both.1)

-- the answer once the trailer is read: the number of rules in range, the distance right, then the rules
abbrev pub trailer_judged : ℕ → Format → List ℕ → ℕ → ℕ → ℕ → Result Checked Refusal
trailer_judged most f s n start distance =
    cond (in_limits most n)
    (cond (eqb distance (length_of_record f * n) && leb distance (length s - trailer_length))
    (accepted n start (judged f (records_from f s (length s - trailer_length - distance) n) start))
    (Err Refusal.Distance))
    (Err Refusal.Count)

check-cases : (most : ℕ) (s : List ℕ)
    → checked_up_to most s ≡ cond (leb trailer_length (length s) && marked s) (trailer_judged most (format_of s) s (count_of s) (start_of s) (distance_of s)) (Err Refusal.Magic)
unfolding checked_up_to records_of first_at trailer_at
check-cases most s = refl

pub check-short : (most : ℕ) (s : List ℕ) → length s < trailer_length → checked_up_to most s ≡ Err Refusal.Magic
check-short most s short = check-cases most s ∙ rw (lt-leb trailer_length (length s) short)

pub check-unmarked : (most : ℕ) (s : List ℕ) → trailer_length ≤ length s → marked_as (format_of s) s ≡ false → checked_up_to most s ≡ Err Refusal.Magic
check-unmarked most s long mark = check-cases most s ∙ rw (le-leb trailer_length (length s) long, marked-format s ∙ mark)

pub check-trailer : (most : ℕ) (f : Format) (s : List ℕ) (n start distance : ℕ) → trailer_length ≤ length s → f ≡ format_of s → marked_as f s ≡ true
    → n ≡ count_of s → start ≡ start_of s → distance ≡ distance_of s → checked_up_to most s ≡ trailer_judged most f s n start distance
check-trailer most f s n start distance long format mark count begins back =
    let m : marked s ≡ true = marked-format s ∙ ap (λ (g : Format). marked_as g s) (sym format) ∙ mark in
    rw (format, count, begins, back) (check-cases most s ∙ rw (le-leb trailer_length (length s) long, m))
