-- A number in decimal, in ASCII, the first digit first.
use Rattle.std.specs.Prelude.{ℕ, zero, suc, ◌+◌, ◌/◌, ◌%◌, ◌≤◌, ◌<◌, ◌≡◌, refl, cond, List, [], ◌∷◌, ◌++◌, ltb}
use Rattle.std.proofs.Common.{arith, ap, lt-ltb, le-ltb}

-- the last digit
abbrev pub digit : ℕ → ℕ
digit v = 48 + v % 10

-- the digits, with at most so many before the last
unfoldable pub digits : ℕ → ℕ → List ℕ
digits zero v = digit v ∷ []
digits (suc k) v = cond (ltb v 10) (digit v ∷ []) (digits k (v / 10) ++ (digit v ∷ []))

-- no number has more digits than it counts
unfoldable pub decimal : ℕ → List ℕ
decimal v = digits v v

-- so the count changes nothing, and nothing after these two equations looks at it
same_digits : (k m v : ℕ) → v ≤ k → v ≤ m → digits k v ≡ digits m v
unfolding digits
same_digits zero zero v p q = refl
same_digits zero (suc m) v p q = rw (lt-ltb v 10 (omega arith))
same_digits (suc k) zero v p q = rw (lt-ltb v 10 (omega arith))
same_digits (suc k) (suc m) v p q =
    ap (λ (l : List ℕ). cond (ltb v 10) (digit v ∷ []) (l ++ (digit v ∷ []))) (same_digits k m (v / 10) (omega arith) (omega arith))

pub decimal-one : (v : ℕ) → v < 10 → decimal v ≡ digit v ∷ []
unfolding decimal digits
decimal-one zero h = refl
decimal-one (suc v) h = rw (lt-ltb (suc v) 10 h)

pub decimal-more : (v : ℕ) → 10 ≤ v → decimal v ≡ decimal (v / 10) ++ (digit v ∷ [])
unfolding decimal digits
decimal-more zero h = absurd (omega arith)
decimal-more (suc v) h =
    rw (le-ltb (suc v) 10 h, same_digits v (suc v / 10) (suc v / 10) (omega arith) (omega arith))
