-- A byte that is none of the eight is no letter. Assumes nothing.
use Prim.Native.Nat.{ℕ}
use mathlib.Core.Path.{◌≡◌}
use Rattle.std.specs.Prelude.{None}
use borrow.Author.Tests.{ne_eqb}
use Rattle.forest.specs.Letter.{letter_of}

pub no-letter : (b : ℕ) → (b ≡ 97 → ⊥) → (b ≡ 122 → ⊥) → (b ≡ 102 → ⊥) → (b ≡ 108 → ⊥) → (b ≡ 110 → ⊥) → (b ≡ 112 → ⊥) → (b ≡ 117 → ⊥) → (b ≡ 115 → ⊥) → letter_of b ≡ None
unfolding letter_of
no-letter b a z f l n p u s =
    simp (ne_eqb b 97 a, ne_eqb b 122 z, ne_eqb b 102 f, ne_eqb b 108 l, ne_eqb b 110 n, ne_eqb b 112 p, ne_eqb b 117 u, ne_eqb b 115 s)
