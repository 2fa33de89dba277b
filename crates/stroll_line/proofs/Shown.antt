-- The answer that a word says is shown as "-" or as its digits, and the lines of letters are that of the first and those of the
-- rest. Assumes nothing.
use Prim.Native.Nat.{ℕ, suc, ◌+◌, ◌-◌, ◌*◌, ◌<◌, ◌≤◌}
use native.Mathlib.Omega.{arith}
use native.Mathlib.Nat.{sub-zero}
use native.Mathlib.Numerals.{add-one}
use mathlib.Core.Path.{◌≡◌, ap, ap₂}
use mathlib.Core.List.{List, [], ◌∷◌, ◌++◌, map}
use Rattle.std.specs.Prelude.{Option, None, Some}
use lib.ListN.{length, get_or, drop, length-append}
use lib.Seq.{drop-cons, drop-length}
use borrow.Author.Tests.{eq-eqb, ne_eqb}
use Rattle.words.specs.Number.{number}
use Rattle.refusal.specs.declared.Refusal.{Refusal}
use Rattle.refusal.specs.Refusal.{number_of, position_of}
use Rattle.forest.specs.Walk.{answer_length, nowhere}
use Rattle.demand.proofs.Words.{words_more}
use Rattle.decimal.specs.Decimal.{decimal}
use Rattle.decimal.proofs.Decimals.{some-digit}
use Rattle.stroll_line.specs.Lines.{line_end, shown, line, lines, refused_text, at_text, refused_line}
use Rattle.stroll_line.specs.Said.{answer_of, answers_from}

pub shown-nowhere : (w : ℕ) → w ≡ nowhere → shown (answer_of w) ≡ 45 ∷ []
unfolding shown answer_of
shown-nowhere w e = rw (eq-eqb w nowhere e)

pub shown-label : (w : ℕ) → (w ≡ nowhere → ⊥) → shown (answer_of w) ≡ decimal w
unfolding shown answer_of
shown-label w e = rw (ne_eqb w nowhere e)

-- an answer is shown by a byte at least
pub shown-some : (x : Option ℕ) → 1 ≤ length (shown x)
unfolding shown
shown-some None = omega arith
shown-some (Some a) = some-digit a

pub line-length : (b : ℕ) (x : Option ℕ) → length (line b x) ≡ 3 + length (shown x)
unfolding line
line-length b x = omega (arith, length-append (shown x) (line_end ∷ []))

-- the lines of all letters, their words read from the answers, and those from letter i on
abbrev pub all_lines : List ℕ → List ℕ → List ℕ
all_lines letters given = lines letters (answers_from (length letters) given 0)

abbrev pub lines_from : List ℕ → List ℕ → ℕ → List ℕ
lines_from letters given i = lines (drop i letters) (answers_from (length letters - i) given (answer_length * i))

pub lines-all : (letters given : List ℕ) → all_lines letters given ≡ lines_from letters given 0
lines-all letters given = rw (sub-zero (length letters))

pub answers-more : (m : ℕ) (s : List ℕ) (at : ℕ) → answers_from (suc m) s at ≡ answer_of (number answer_length s at) ∷ answers_from m s (at + answer_length)
unfolding answers_from
answers-more m s at = ap (map answer_of) (words_more m s at)

pub lines_more : (letters given : List ℕ) (i : ℕ) {w : ℕ} → i < length letters → w ≡ number answer_length given (answer_length * i)
    → lines_from letters given i ≡ line (get_or letters i 0) (answer_of w) ++ lines_from letters given (i + 1)
unfolding lines
lines_more letters given i h q =
    let e : length letters - i ≡ suc (length letters - suc i) = omega arith in
    let f : answer_length * i + answer_length ≡ answer_length * suc i = omega arith in
    rw (q, add-one i, drop-cons letters i 0 h, e, answers-more (length letters - suc i) given (answer_length * i), f)

pub lines_none : (letters given : List ℕ) (i : ℕ) → i ≡ length letters → lines_from letters given i ≡ []
unfolding lines
lines_none letters given i e = rw (e, drop-length letters)

-- a refusal's line, by its number and position
pub refused-text : (why : Refusal) {n p : ℕ} → n ≡ number_of why → p ≡ position_of why
    → refused_text ++ (decimal n ++ (at_text ++ (decimal p ++ (line_end ∷ [])))) ≡ refused_line why
unfolding refused_line
refused-text why e f = ap₂ (λ (n p : ℕ). refused_text ++ (decimal n ++ (at_text ++ (decimal p ++ (line_end ∷ []))))) e f
