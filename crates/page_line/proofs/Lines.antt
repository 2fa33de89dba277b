-- A line has 41 bytes, since each text that is right set fills its columns; the lines of letters are that of the first and those of the rest.
-- Assumes nothing.
use Prim.Native.Nat.{ℕ, zero, suc, ◌+◌, ◌-◌, ◌*◌, ◌<◌, ◌≤◌}
use native.Mathlib.Omega.{arith}
use native.Mathlib.Nat.{sub-zero}
use native.Mathlib.Numerals.{add-one}
use mathlib.Core.Path.{◌≡◌, refl, sym, ap}
use mathlib.Core.List.{List, [], ◌∷◌, ◌++◌}
use Rattle.std.specs.Prelude.{Option}
use lib.ListN.{length, get_or, take, drop, replicate, length-append, length-replicate}
use lib.Seq.{drop-cons, drop-length}
use Rattle.words.specs.Number.{number}
use Rattle.forest.specs.Walk.{answer_length, nowhere}
use Rattle.demand.specs.Demand.{answer_words}
use Rattle.decimal.specs.Decimal.{decimal}
use Rattle.decimal.specs.Text.{Pushed}
use Rattle.decimal.specs.declared.Text.{Text}
use Rattle.decimal.proofs.Decimals.{decimal-length}
use Rattle.stroll_line.specs.Lines.{line_end, shown}
use Rattle.stroll_line.specs.Said.{answer_of, answers_from}
use Rattle.stroll_line.proofs.Shown.{shown-nowhere, answers-more}
use Rattle.page_line.specs.Page.{right_set, page_line, line_bytes, numbered, blank_line, blank_lines, most_number, Short, Shorts}

-- what a writer ensures: the bytes, and how many
pub pushed-so : {bytes : List ℕ} {s t : Text} (k : ℕ) → length bytes ≡ k → Pushed bytes s t → Pushed bytes s t × (t.len ≡ s.len + k)
pushed-so k e P = (P, omega (arith, P.put.ends))

-- ---- blanks
pub blanks-taken : (n m x : ℕ) → n ≤ m → take n (replicate m x) ≡ replicate n x
blanks-taken zero m x h = refl
blanks-taken (suc n) zero x h = absurd (omega arith)
blanks-taken (suc n) (suc m) x h = ap (λ (l : List ℕ). x ∷ l) (blanks-taken n m x (omega arith))

pub right-long : (width : ℕ) (text : List ℕ) → length text ≤ width → length (right_set width text) ≡ width
unfolding right_set
right-long width text h = omega (arith, length-append (replicate (width - length text) 32) text, length-replicate {0} {A = ℕ} (width - length text) 32)

pub blank-long : length blank_line ≡ line_bytes
unfolding blank_line
blank-long = refl

pub blanks-long : (m : ℕ) → length (blank_lines m) ≡ line_bytes * m
unfolding blank_lines
blanks-long zero = refl
blanks-long (suc m) = omega (arith, length-append blank_line (blank_lines m), blank-long, blanks-long m)

pub blanks-all : (m : ℕ) → blank_lines m ≡ blank_lines (m - 0)
blanks-all m = ap blank_lines (sym (sub-zero m))

pub blanks-more : (m i : ℕ) → i < m → blank_lines (m - i) ≡ blank_line ++ blank_lines (m - (i + 1))
unfolding blank_lines
blanks-more m i h = let e : m - i ≡ suc (m - (i + 1)) = omega arith in rw e

pub blanks-none : (m i : ℕ) → m ≤ i → blank_lines (m - i) ≡ []
unfolding blank_lines
blanks-none m i h = let e : m - i ≡ 0 = omega arith in rw e

-- ---- digits
pub number_short : (i : ℕ) → i ≤ most_number → length (decimal i) ≤ 6
number_short i h = decimal-length 5 i (omega arith)

-- a number right set by how many digits it has
pub right_is : (width v : ℕ) {n : ℕ} → n ≡ length (decimal v) → replicate (width - n) 32 ++ decimal v ≡ right_set width (decimal v)
unfolding right_set
right_is width v e = rw e

-- nowhere right set
pub nowhere-is : (w : ℕ) → w ≡ nowhere → replicate 7 32 ++ (45 ∷ []) ≡ right_set 8 (shown (answer_of w))
unfolding right_set
nowhere-is w e = rw (shown-nowhere w e)

-- ---- lines
pub line-long : (i b : ℕ) (x : Option ℕ) → i ≤ most_number → Short x → length (page_line i b x) ≡ line_bytes
unfolding page_line
line-long i b x h k =
    omega (
      arith,
      length-append (right_set 6 (decimal i)) (32 ∷ b ∷ 32 ∷ (right_set 8 (shown x) ++ (replicate 23 32 ++ (line_end ∷ [])))),
      length-append (right_set 8 (shown x)) (replicate 23 32 ++ (line_end ∷ [])),
      right-long 6 (decimal i) (number_short i h),
      right-long 8 (shown x) k,
    )

-- the lines of letters, one answer for each
pub lines_long : (i : ℕ) (letters : List ℕ) (xs : List (Option ℕ)) → i + length letters ≤ most_number + 1 → Shorts xs → length xs ≡ length letters
    → length (numbered i letters xs) ≡ line_bytes * length letters
unfolding numbered
lines_long i [] xs h s e = refl
lines_long i (b ∷ bs) [] h s e = absurd (omega arith)
lines_long i (b ∷ bs) (x ∷ xs) h s e =
    omega (
      arith,
      length-append (page_line i b x) (numbered (suc i) bs xs),
      line-long i b x (omega arith) s.0,
      lines_long (suc i) bs xs (omega arith) s.1 (omega arith),
    )

pub from-long : (m : ℕ) (s : List ℕ) (at : ℕ) → length (answers_from m s at) ≡ m
unfolding answers_from answer_words
from-long zero s at = refl
from-long (suc m) s at = ap suc (from-long m s (at + answer_length))

-- the lines from letter i on
abbrev pub lines_from : ℕ → List ℕ → List ℕ → ℕ → List ℕ
lines_from first letters given i = numbered (first + i) (drop i letters) (answers_from (length letters - i) given (answer_length * i))

pub lines-all : (first : ℕ) (letters given : List ℕ) → numbered first letters (answers_from (length letters) given 0) ≡ lines_from first letters given 0
lines-all first letters given = let e : first + 0 ≡ first = omega arith in rw (sub-zero (length letters), e)

from_more : (letters given : List ℕ) (i : ℕ) → i < length letters
    → answers_from (length letters - i) given (answer_length * i)
    ≡ answer_of (number answer_length given (answer_length * i)) ∷ answers_from (length letters - (i + 1)) given (answer_length * (i + 1))
from_more letters given i h =
    let e : length letters - i ≡ suc (length letters - (i + 1)) = omega arith in
    let f : answer_length * i + answer_length ≡ answer_length * (i + 1) = omega arith in
    rw (e, answers-more (length letters - (i + 1)) given (answer_length * i), f)

pub lines_more : (first : ℕ) (letters given : List ℕ) (i : ℕ) {w : ℕ} → i < length letters → w ≡ number answer_length given (answer_length * i)
    → lines_from first letters given i ≡ page_line (first + i) (get_or letters i 0) (answer_of w) ++ lines_from first letters given (i + 1)
unfolding numbered
lines_more first letters given i h q =
    let e : suc (first + i) ≡ first + suc i = omega arith in
    rw (q, from_more letters given i h, add-one i, drop-cons letters i 0 h, e)

pub lines_none : (first : ℕ) (letters given : List ℕ) (i : ℕ) → i ≡ length letters → lines_from first letters given i ≡ []
unfolding numbered
lines_none first letters given i e = rw (e, drop-length letters)

-- the answers from letter i on are short
pub shorts-all : (letters given : List ℕ) → Shorts (answers_from (length letters) given 0) → Shorts (answers_from (length letters - 0) given (answer_length * 0))
shorts-all letters given h = rw (sub-zero (length letters)) h

pub shorts-more : (letters given : List ℕ) (i : ℕ) {w : ℕ} → i < length letters → w ≡ number answer_length given (answer_length * i)
    → Shorts (answers_from (length letters - i) given (answer_length * i))
    → Short (answer_of w) × Shorts (answers_from (length letters - (i + 1)) given (answer_length * (i + 1)))
shorts-more letters given i h q s = rw q (rw (from_more letters given i h) at s)
