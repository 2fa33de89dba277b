-- The lines of a page (document 02, Note 13).
use Rattle.std.specs.Prelude.{ℕ, zero, suc, ◌-◌, ◌≤◌, List, [], ◌∷◌, ◌++◌, length, replicate}
use Rattle.std.specs.Prelude.{Option}
use Rattle.decimal.specs.Decimal.{decimal}
use Rattle.stroll_line.specs.Lines.{line_end, shown}

-- a text "right set" in so many columns
unfoldable pub right_set : ℕ → List ℕ → List ℕ
right_set width text = replicate (width - length text) 32 ++ text

-- "columns 1 to 6 the letter's number from 1, right set; 8 the letter; 10 to 17 the label, right set, or "-" in 17; 19 to 40 and the gaps
-- blank"; "Byte 10 ends every line"
unfoldable pub page_line : ℕ → ℕ → Option ℕ → List ℕ
page_line i b x = right_set 6 (decimal i) ++ (32 ∷ b ∷ 32 ∷ (right_set 8 (shown x) ++ (replicate 23 32 ++ (line_end ∷ []))))

-- "Each line has 40 columns", and its end
abbrev pub columns : ℕ
columns = 40

abbrev pub line_bytes : ℕ
line_bytes = 41

-- the lines of letters from number i on, with their answers
unfoldable pub numbered : ℕ → List ℕ → List (Option ℕ) → List ℕ
numbered i [] xs = []
numbered i (b ∷ bs) [] = []
numbered i (b ∷ bs) (x ∷ xs) = page_line i b x ++ numbered (suc i) bs xs

-- "lines of 40 blanks"
unfoldable pub blank_line : List ℕ
blank_line = replicate columns 32 ++ (line_end ∷ [])

unfoldable pub blank_lines : ℕ → List ℕ
blank_lines zero = []
blank_lines (suc m) = blank_line ++ blank_lines m

-- "A page has 50 lines, the last filled with lines of 40 blanks"
abbrev pub page_lines : ℕ
page_lines = 50

unfoldable pub page_text : ℕ → List ℕ → List (Option ℕ) → List ℕ
page_text i letters xs = numbered i letters xs ++ blank_lines (page_lines - length letters)

-- the largest number of a letter that six columns hold
abbrev pub most_number : ℕ
most_number = 999999

-- answers that eight columns hold
abbrev pub Short : Option ℕ → Type 0
Short x = length (shown x) ≤ 8

abbrev pub Shorts : List (Option ℕ) → Type 0
Shorts [] = Unit {0}
Shorts (x ∷ xs) = Short x × Shorts xs
