-- Numbers that are capped before they are added come to the same, capped. Assumes nothing.
use Prim.Native.Nat.{ℕ, ◌+◌}
use native.Mathlib.Omega.{arith}
use mathlib.Core.Path.{◌≡◌}
use Rattle.count_capped.specs.Count.{capped, capped_sum}

pub capped-sum : (m n : ℕ) → capped (m + n) ≡ capped_sum (capped m) (capped n)
capped-sum m n = omega arith

-- it is enough to cap one of them
pub capped-more : (m n : ℕ) → capped (m + n) ≡ capped_sum m (capped n)
capped-more m n = omega arith
