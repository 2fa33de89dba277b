-- The rules that a start rule reaches, written as rules of their own, in two passes over an order of the rules: down it to mark what the
-- start rule reaches, up it to number the marked rules and write them. The order is a function from places to rules, and `place` its
-- inverse, so that a list and words in the lent work serve alike.
use Rattle.std.specs.Prelude.{ℕ, zero, suc, ◌<◌, Bool, cond, ◌||◌, List, [], ◌∷◌, ◌++◌, ◌≡◌, length, eqb}
use Rattle.rule.specs.declared.Rule.{Rule}
use Rattle.rule.specs.Names.{Names}
use Rattle.rule.specs.Sound.{rule}
use Rattle.reach.specs.Reaches.{any_named}
use Rattle.reach.specs.Order.{count}
use Rattle.copy_variants.specs.declared.Variants.{Variants}
use Rattle.copy_variants.specs.Variants.{variant_rules, threefold, whole_name}

-- each rule stands at one place, and after those that it names
pub record Placing (R : List Rule) (order place : ℕ → ℕ) : Type 0 where
  pub inside : (i : ℕ) → i < length R → order i < length R
  pub placed : (r : ℕ) → r < length R → place r < length R
  pub there : (r : ℕ) → r < length R → order (place r) ≡ r
  pub once : (i : ℕ) → i < length R → place (order i) ≡ i
  pub after : (r k : ℕ) → r < length R → Names (rule R r) k → place k < place r

-- marks, and those of the rules that x names
unfoldable pub mark_named : Rule → (ℕ → Bool) → ℕ → Bool
unfolding any_named
mark_named x mark k = mark k || any_named (λ j. eqb j k) x

-- the marks after the places below i, from place i − 1 down: what a marked rule names is marked
unfoldable pub marks_down : List Rule → (ℕ → ℕ) → ℕ → (ℕ → Bool) → ℕ → Bool
marks_down R order zero mark = mark
marks_down R order (suc i) mark = marks_down R order i (cond (mark (order i)) (mark_named (rule R (order i)) mark) mark)

-- the first pass: the start rule is marked, and what it reaches
unfoldable pub marks : List Rule → (ℕ → ℕ) → ℕ → ℕ → Bool
marks R order start = marks_down R order (length R) (λ k. eqb k start)

-- the number of a marked rule: how many marked rules stand before it
unfoldable pub number : (ℕ → Bool) → (ℕ → ℕ) → (ℕ → ℕ) → ℕ → ℕ
unfolding count
number mark order place k = count (λ i. mark (order i)) (place k)

-- a rule that names other numbers
unfoldable pub renamed : (ℕ → ℕ) → Rule → Rule
renamed f Rule.Empty = Rule.Empty
renamed f (Rule.Pair b c) = Rule.Pair (f b) (f c)
renamed f (Rule.Node a c) = Rule.Node a (f c)
renamed f (Rule.Fill b c) = Rule.Fill (f b) (f c)
renamed f (Rule.Part a b c) = Rule.Part a (f b) (f c)
renamed f (Rule.Join b c) = Rule.Join (f b) (f c)

-- the second pass: the marked rules at the places below i, from place 0 up, with their numbers as names
unfoldable pub written_up : List Rule → (ℕ → ℕ) → (ℕ → Bool) → (ℕ → ℕ) → ℕ → List Rule
written_up R order mark num zero = []
written_up R order mark num (suc i) =
    cond (mark (order i)) (written_up R order mark num i ++ (renamed num (rule R (order i)) ∷ [])) (written_up R order mark num i)

-- both passes: the rules that the start rule reaches, and the start rule's number
unfoldable pub reached_number : List Rule → (ℕ → ℕ) → (ℕ → ℕ) → ℕ → ℕ → ℕ
reached_number R order place start = number (marks R order start) order place

unfoldable pub reached_rules : List Rule → (ℕ → ℕ) → (ℕ → ℕ) → ℕ → List Rule
reached_rules R order place start = written_up R order (marks R order start) (reached_number R order place start) (length R)

-- The client's copy as rules: W gives the variants of n rules, whose order and places are given; the copy's start is the whole variant
-- of the plan's start rule.
unfoldable pub copy_rules : (ℕ → Variants) → ℕ → (ℕ → ℕ) → (ℕ → ℕ) → ℕ → List Rule
copy_rules W n order place start = reached_rules (variant_rules W n) (threefold order) (threefold place) (whole_name start)

unfoldable pub copy_start : (ℕ → Variants) → ℕ → (ℕ → ℕ) → (ℕ → ℕ) → ℕ → ℕ
copy_start W n order place start = reached_number (variant_rules W n) (threefold order) (threefold place) (whole_name start) (whole_name start)
