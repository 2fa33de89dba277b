-- What the check makes of one row and of the end of the list, case by case. Assumes nothing.
use Rattle.std.specs.Prelude.{Result, Ok, Err}
use Rattle.std.proofs.Common.{◌≡◌, ℕ, suc, ◌+◌, ◌<◌, ◌≤◌, true, false, List, [], ◌∷◌, length, get_or, drop, sym, refl, ap, ◌∙◌, add-one, drop_of_length-le, drop-cons, le-ltb, lt-ltb, le-leb}
use borrow.Author.Tests.{lt-leb}
use Rattle.refusal.specs.declared.Refusal.{Refusal}
use Rattle.rule.specs.Rule.{largest_label}
use Rattle.label_rows.specs.declared.LabelRow.{LabelRow}
use Rattle.label_rows.specs.Coverage.{invalid, extended, ended, coverage_from, coverage}
use Rattle.label_rows.specs.Class.{no_row}

module _ (next i : ℕ) (r : LabelRow) where
  pub extended_row : invalid r ≡ true → extended (Ok next) i r ≡ Err (Refusal.Row i)
  unfolding extended
  extended_row e = rw e

  module _ (v : invalid r ≡ false) where
    pub extended-gap : next < r.lowest → extended (Ok next) i r ≡ Err (Refusal.Gap i)
    unfolding extended
    extended-gap l = rw (v, lt-ltb next r.lowest l)

    pub extended-overlap : r.lowest < next → r.lowest ≤ next → extended (Ok next) i r ≡ Err (Refusal.Overlap i)
    unfolding extended
    extended-overlap l h = rw (v, le-ltb next r.lowest h, lt-ltb r.lowest next l)

    pub extended_fits : r.lowest ≤ next → next ≤ r.lowest → extended (Ok next) i r ≡ Ok (r.highest + 1)
    unfolding extended
    extended_fits h l = rw (v, le-ltb next r.lowest h, le-ltb r.lowest next l)

pub ended-short : (next n : ℕ) → next ≤ largest_label → ended (Ok next) n ≡ Err (Refusal.Gap n)
unfolding ended
ended-short next n h = rw (le-leb next largest_label h)

pub ended-whole : (next n : ℕ) → largest_label < next → ended (Ok next) n ≡ Ok tt
unfolding ended
ended-whole next n h = rw (lt-leb next largest_label h)

-- a row at fault stays
pub refused-from : (why : Refusal) (i : ℕ) (rs : List LabelRow) → coverage_from (Err why) i rs ≡ Err why
unfolding coverage_from extended ended
refused-from why i [] = refl
refused-from why i (r ∷ rs) = refused-from why (i + 1) rs

-- the check goes on from what it makes of the first row
pub coverage-first : (f : Result ℕ Refusal) (i : ℕ) (r : LabelRow) (rs : List LabelRow) {g : Result ℕ Refusal} → extended f i r ≡ g
    → coverage_from f i (r ∷ rs) ≡ coverage_from g (i + 1) rs
unfolding coverage_from
coverage-first f i r rs e = ap (λ (x : Result ℕ Refusal). coverage_from x (i + 1) rs) e

-- the same at row i of a list, and past its last row
pub coverage-next : (f : Result ℕ Refusal) (i : ℕ) (rows : List LabelRow) → i < length rows → {g : Result ℕ Refusal} → extended f i (get_or rows i no_row) ≡ g
    → coverage_from f i (drop i rows) ≡ coverage_from g (i + 1) (drop (i + 1) rows)
coverage-next f i rows h {g} e =
    ap (λ (l : List LabelRow). coverage_from f i l) (drop-cons rows i no_row h)
    ∙ coverage-first f i (get_or rows i no_row) (drop (suc i) rows) e
    ∙ ap (λ (k : ℕ). coverage_from g (i + 1) (drop k rows)) (sym (add-one i))

pub coverage-end : (f : Result ℕ Refusal) (i : ℕ) (rows : List LabelRow) → length rows ≤ i → coverage_from f i (drop i rows) ≡ ended f i
unfolding coverage_from
coverage-end f i rows h = ap (λ (l : List LabelRow). coverage_from f i l) (drop_of_length-le rows h)

pub coverage-start : (f : Result ℕ Refusal) (rows : List LabelRow) → f ≡ Ok 0 → coverage rows ≡ coverage_from f 0 (drop 0 rows)
unfolding coverage
coverage-start f rows e = rw e
