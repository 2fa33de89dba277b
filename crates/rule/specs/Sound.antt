-- What every accepted plan has, and all that the meaning of a plan rests on: rules named are in range and of the right sort (document 01,
-- "A plan's bytes"), and no rule reaches itself (document 02, Note 1), so there is a rank that falls from a rule to those that it names.
use Rattle.std.specs.Prelude.{ℕ, ◌<◌, List, length, T, ltb}
use Rattle.rule.specs.declared.Rule.{Rule}
use Rattle.rule.specs.Rule.{encode, every, sorts, closed, labelled}
unfoldable pub use Rattle.rule.specs.Rule.{rule}

-- the kind of the rule with a number
unfoldable pub kind_in : List Rule → ℕ → ℕ
unfolding rule encode
kind_in R r = (encode (rule R r)).kind

-- The rules name rules in range, of the right sort, and of a lower rank; an accepted plan's rank is the number of rules that a rule reaches.
pub record Sound (R : List Rule) (rank : ℕ → ℕ) : Type 0 where
  pub in_range : (r : ℕ) → r < length R → T (every (λ x. ltb x (length R)) (rule R r))
  pub falls : (r : ℕ) → r < length R → T (every (λ x. ltb (rank x) (rank r)) (rule R r))
  pub ranked : (r : ℕ) → r < length R → rank r < length R
  pub sorted : (r : ℕ) → r < length R → T (sorts (kind_in R) (rule R r))
  pub labels : (r : ℕ) → r < length R → T (labelled (rule R r))

-- A rule whose forest can be walked: in range and closed. "The start rule is closed."
pub record Closed (R : List Rule) (r : ℕ) : Type 0 where
  pub below : r < length R
  pub closed_kind : T (closed (kind_in R r))

-- every rule names only lower ones
abbrev pub Lower : List Rule → Type 0
Lower R = (r : ℕ) → r < length R → T (every (λ x. ltb x r) (rule R r))
