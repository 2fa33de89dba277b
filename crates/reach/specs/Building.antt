-- The stack of a depth-first search over the rules, and an order that has begun. Both are functions of the place, so that a list
-- (`λ i. get_or o i 0`) and words in a slice serve alike.
use Rattle.std.specs.Prelude.{ℕ, suc, ◌<◌, List, ◌≡◌, length}
use Rattle.rule.specs.declared.Rule.{Rule}
use Rattle.rule.specs.Names.{Names}
use Rattle.rule.specs.Sound.{rule}

-- each of m rules on a stack names the next above it
abbrev pub Chain : List Rule → (ℕ → ℕ) → ℕ → Type 0
Chain R st m = (i : ℕ) → suc i < m → Names (rule R (st i)) (st (suc i))

-- r stands at one of the first m places
abbrev pub Stands : (ℕ → ℕ) → ℕ → ℕ → Type 0
Stands o m r = (i : ℕ) × (i < m) × (o i ≡ r)

-- at the first m places stand rules, each once, and each after those that it names
pub record Begun (R : List Rule) (o : ℕ → ℕ) (m : ℕ) : Type 0 where
  pub inside : (i : ℕ) → i < m → o i < length R
  pub once : (i j : ℕ) → i < m → j < m → o i ≡ o j → i ≡ j
  pub after : (i k : ℕ) → i < m → Names (rule R (o i)) k → Stands o i k
