-- The lines that stroll prints (document 01, "One sample plan").
use Rattle.std.specs.Prelude.{ℕ, ◌+◌, List, [], ◌∷◌, ◌++◌}
use Rattle.std.specs.Prelude.{Option, None, Some}
use Rattle.refusal.specs.declared.Refusal.{Refusal}
use Rattle.refusal.specs.Refusal.{number_of, position_of}
use Rattle.decimal.specs.Decimal.{decimal}
use Rattle.decimal.specs.Put.{most_digits}

-- the longest line: a letter, a space, the eight digits of a label ("Labels go to 16,777,215", document 02, Note 2), the line end
abbrev pub line_length : ℕ
line_length = 11

-- "every line ended by byte 10"
abbrev pub line_end : ℕ
line_end = 10

-- "the label in decimal or "-""
unfoldable pub shown : Option ℕ → List ℕ
shown None = 45 ∷ []
shown (Some a) = decimal a

-- "the letter, a space, the label in decimal or "-""
unfoldable pub line : ℕ → Option ℕ → List ℕ
line b x = b ∷ 32 ∷ (shown x ++ (line_end ∷ []))

-- "It prints one line per letter": the letters' bytes with their answers
unfoldable pub lines : List ℕ → List (Option ℕ) → List ℕ
lines [] xs = []
lines (b ∷ bs) [] = []
lines (b ∷ bs) (x ∷ xs) = line b x ++ lines bs xs

-- "refused " and " at "
abbrev pub refused_text : List ℕ
refused_text = 114 ∷ 101 ∷ 102 ∷ 117 ∷ 115 ∷ 101 ∷ 100 ∷ 32 ∷ []

abbrev pub at_text : List ℕ
at_text = 32 ∷ 97 ∷ 116 ∷ 32 ∷ []

-- "A refusal is the one line "refused N at P", N the number and P the position"
unfoldable pub refused_line : Refusal → List ℕ
refused_line r = refused_text ++ (decimal (number_of r) ++ (at_text ++ (decimal (position_of r) ++ (line_end ∷ []))))

-- the room of a refusal's line: its two texts, a number of 32 bits, a position of 64 bits, the line end
abbrev pub refused_length : ℕ
refused_length = 8 + 10 + 4 + most_digits + 1
