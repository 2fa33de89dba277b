-- A count that stops at 2^64: exact up to 2^64 − 1, and known to be more above (document 01, "11: over 2^64 − 1 nodes").
use Rattle.std.specs.Prelude.{ℕ, ◌+◌, ◌*◌, min, cond, ltb, Option, Some, None}
pub use Rattle.forest.specs.Outcome.{count_limit}
use Rattle.count_capped.specs.declared.Count.TheInside.{Inside}

-- the least number that isn't counted exactly stands for all above it
abbrev pub capped : ℕ → ℕ
capped n = min n count_limit

-- a sum that stops there
abbrev pub capped_sum : ℕ → ℕ → ℕ
capped_sum m n = capped (m + n)

-- the number, if it is counted exactly
abbrev pub fitting : ℕ → Option ℕ
fitting n = cond (ltb n count_limit) (Some n) None

-- the number that a count stands for
abbrev pub number_of : Inside → ℕ
number_of c = c.low + count_limit * c.over

-- the bytes of a count: eight of the number, two of the flag
abbrev pub count_length : ℕ
count_length = 10
