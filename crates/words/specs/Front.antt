-- Bytes at the front of a slice (document 01, "Seal": "leaves later bytes").
use Rattle.std.specs.Prelude.{ℕ, List, ◌++◌, length, drop, replicate}

-- some bytes at the front of a slice; later bytes stay
unfoldable pub in_front : List ℕ → List ℕ → List ℕ
in_front bs out = bs ++ drop (length bs) out

-- a list whose first m bytes are zeros
unfoldable pub cleared : ℕ → List ℕ → List ℕ
cleared m s = replicate m 0 ++ drop m s
