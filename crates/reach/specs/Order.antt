-- An order of the rules in which each stands after those that it names.
use Rattle.std.specs.Prelude.{ℕ, zero, suc, ◌<◌, Bool, true, cond, ◌&&◌, ◌≡◌, List, [], ◌∷◌, length, get_or, T, ltb}
use Rattle.rule.specs.declared.Rule.{Rule}
use Rattle.rule.specs.Rule.{every}
use Rattle.rule.specs.Names.{Names}
use Rattle.rule.specs.Sound.{rule}
pub use Rattle.rule.specs.Sound.{Lower}
use Rattle.reach.specs.Reaches.{Reaches, reaches}

-- every named rule is one of the rules (refusal 5 passed)
abbrev pub Ranged : List Rule → Type 0
Ranged R = (r : ℕ) → r < length R → T (every (λ x. ltb x (length R)) (rule R r))

-- the same as a test, of the rules below i
unfoldable pub lower_below : List Rule → ℕ → Bool
lower_below R zero = true
lower_below R (suc i) = lower_below R i && every (λ x. ltb x i) (rule R i)

-- no rule reaches itself
abbrev pub Acyclic : List Rule → Type 0
Acyclic R = (r : ℕ) → r < length R → Reaches R r r → ⊥

-- how many numbers below n pass a test
unfoldable pub count : (ℕ → Bool) → ℕ → ℕ
count p zero = 0
count p (suc n) = cond (p n) (suc (count p n)) (count p n)

-- The rank of a rule: how many rules it reaches. Where no rule reaches itself it falls from a rule to those that it names, and is below
-- the number of rules (proofs/Acyclic).
unfoldable pub rank : List Rule → ℕ → ℕ
rank R r = count (reaches R r) (length R)

-- the order o lists each rule at exactly one place, and each after those that it names
pub record Orders (R : List Rule) (o : List ℕ) : Type 0 where
  pub long : length o ≡ length R
  pub inside : (i : ℕ) → i < length R → get_or o i 0 < length R
  pub place : ℕ → ℕ
  pub placed : (r : ℕ) → r < length R → place r < length R
  pub there : (r : ℕ) → r < length R → get_or o (place r) 0 ≡ r
  pub once : (i : ℕ) → i < length R → place (get_or o i 0) ≡ i
  pub after : (r k : ℕ) → r < length R → Names (rule R r) k → place k < place r

-- n numbers from i on, and the rules in the order of their numbers
unfoldable pub numbers_from : ℕ → ℕ → List ℕ
numbers_from i zero = []
numbers_from i (suc n) = i ∷ numbers_from (suc i) n
