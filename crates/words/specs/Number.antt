-- Whole numbers in a list of bytes, low byte first (document 01, "A plan's bytes": "Whole numbers are little-endian").
-- One definition and one law over the width w, the number of bytes: a 16-bit word is width 2, a 32-bit word width 4.
use Rattle.std.specs.Prelude.{ℕ, zero, suc, ◌+◌, ◌*◌, ◌/◌, ◌%◌, List, [], ◌∷◌, length, get_or}

-- how many values a byte has
abbrev pub base : ℕ
base = 256

-- the number whose w bytes, low first, begin at offset at; bytes past the end count as 0
unfoldable pub number : ℕ → List ℕ → ℕ → ℕ
number zero s at = 0
number (suc w) s at = get_or s at 0 + base * number w s (suc at)

-- the w low bytes of a number, low first
unfoldable pub bytes : ℕ → ℕ → List ℕ
bytes zero v = []
bytes (suc w) v = v % base ∷ bytes w (v / base)

-- how many 16-bit words a slice has: an odd last byte isn't counted
abbrev pub word_count : List ℕ → ℕ
word_count s = length s / 2
