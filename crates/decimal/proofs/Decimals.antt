-- A number's digits are those before the last and the last, so it has one, and one that is below a power of ten has at most so many.
-- Assumes nothing.
use Prim.Native.Nat.{ℕ, zero, suc, ◌+◌, ◌/◌, ◌^◌, ◌<◌, ◌≤◌}
use native.Mathlib.Omega.{arith}
use native.Mathlib.Nat.{pow-suc}
use mathlib.Core.Path.{◌≡◌, refl, sym, ap, ◌∙◌}
use mathlib.Core.Bool.{Bool, true, false}
use mathlib.Core.List.{List, [], ◌∷◌, ◌++◌}
use lib.ListN.{length, length-append}
use lib.Dec.{ltb}
use borrow.Table.Steps.{cases}
use borrow.Author.Tests.{ltb-true, ltb-false}
use Rattle.std.specs.Fmt.{decimal as Fmt·decimal}
use Rattle.std.proofs.lemmas.Fmt.{decimal_by_steps}
use Rattle.decimal.specs.Decimal.{digit, decimal, decimal-one, decimal-more}

one-digit : (v : ℕ) → v < 10 → length (decimal v) ≡ 1
one-digit v h = ap length (decimal-one v h)

more-digits : (v : ℕ) → 10 ≤ v → length (decimal v) ≡ length (decimal (v / 10)) + 1
more-digits v h = ap length (decimal-more v h) ∙ length-append (decimal (v / 10)) (digit v ∷ [])

pub some-digit : (v : ℕ) → 1 ≤ length (decimal v)
some-digit v = cases (ltb v 10) (λ e. omega (arith, one-digit v (ltb-true v 10 e))) (λ e. omega (arith, more-digits v (ltb-false v 10 e)))

pub decimal-length : (k v : ℕ) → v < 10 ^ suc k → length (decimal v) ≤ suc k
decimal-length zero v h = omega (arith, one-digit v (omega (arith, pow-suc 10 0)))
decimal-length (suc k) v h = go (decimal-length k (v / 10) (omega (arith, pow-suc 10 (suc k)))) (ltb v 10) refl
  where
    go : length (decimal (v / 10)) ≤ suc k → (b : Bool) → ltb v 10 ≡ b → length (decimal v) ≤ suc (suc k)
    go f true e = omega (arith, one-digit v (ltb-true v 10 e))
    go f false e = omega (arith, more-digits v (ltb-false v 10 e))

-- the library's digits are these
same-one : (v : ℕ) → v < 10 → decimal v ≡ (48 + v) ∷ []
same-one v h = decimal-one v h ∙ ap (λ (d : ℕ). (48 + d) ∷ []) (omega arith)

same-more : (v : ℕ) (text : List ℕ) → 10 ≤ v → decimal (v / 10) ≡ text → decimal v ≡ text ++ (digit v ∷ [])
same-more v text h e = decimal-more v h ∙ ap (λ (l : List ℕ). l ++ (digit v ∷ [])) e

pub same_digits : {v : ℕ} {text : List ℕ} → v < 2 ^ 64 → text ≡ Fmt·decimal v → text ≡ decimal v
same_digits {v} h e = e ∙ sym (decimal_by_steps (λ (v : ℕ) (text : List ℕ). decimal v ≡ text) same-one same-more v h)
