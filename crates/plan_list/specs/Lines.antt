-- What the program prints (document 02, Note 14): the listed plans, "one a line in lower-case hexadecimal".
use Rattle.std.specs.Prelude.{ℕ, ◌+◌, ◌/◌, ◌%◌, cond, List, [], ◌∷◌, ◌++◌, ltb}
use Rattle.plan_list.specs.Listed.{listed}

-- a digit in ASCII: 0 to 9, a to f
unfoldable pub hex_digit : ℕ → ℕ
hex_digit v = cond (ltb v 10) (48 + v) (87 + v)

-- two digits a byte, the high one first
unfoldable pub hexes : List ℕ → List ℕ
hexes [] = []
hexes (b ∷ bs) = hex_digit (b / 16) ∷ hex_digit (b % 16) ∷ hexes bs

unfoldable pub hex_line : List ℕ → List ℕ
hex_line s = hexes s ++ (10 ∷ [])

unfoldable pub lines_of : List (List ℕ) → List ℕ
lines_of [] = []
lines_of (s ∷ ss) = hex_line s ++ lines_of ss

unfoldable pub list_output : List ℕ
list_output = lines_of listed
