-- A weight of labels summed over all nodes (document 02, Note 8: "without spreading it: the sum over all its nodes"): over expressions by
-- recursion, and over rules in a column of the rows, exact up to 2^64 − 1. Which weight it is, the rows' own words say.
use Rattle.std.specs.Prelude.{ℕ, ◌+◌, ◌<◌, ◌≡◌, List}
use Rattle.record.specs.Format.{word_length}
use Rattle.rule.specs.declared.Rule.{Rule}
use Rattle.forest.specs.Expression.{Expression}
use Rattle.work_rows.specs.Rows.{field, rule_in}
use Rattle.count_capped.specs.Count.{capped, capped_sum, count_length}
use Rattle.count_passes.specs.Tally.{Unfolds, Column, Besides}

-- the weight of a rule's own label; 0 where it has none
unfoldable pub own_weight : (ℕ → ℕ) → Rule → ℕ
own_weight w Rule.Empty = 0
own_weight w (Rule.Pair b c) = 0
own_weight w (Rule.Node a c) = w a
own_weight w (Rule.Fill b c) = 0
own_weight w (Rule.Part a b c) = w a
own_weight w (Rule.Join b c) = 0

-- the sum of what f gives the rules that a rule names, with an addition: exact, or one that stops at 2^64
unfoldable pub named_sum : (ℕ → ℕ → ℕ) → (ℕ → ℕ) → Rule → ℕ
named_sum plus f Rule.Empty = 0
named_sum plus f (Rule.Pair b c) = plus (f b) (f c)
named_sum plus f (Rule.Node a c) = f c
named_sum plus f (Rule.Fill b c) = plus (f b) (f c)
named_sum plus f (Rule.Part a b c) = plus (f b) (f c)
named_sum plus f (Rule.Join b c) = plus (f b) (f c)

-- the sum over an expression. Proved in proofs/Meaning: it is that over the nodes of the forest that the expression is worth
unfoldable pub weight_in : (ℕ → ℕ) → Expression → ℕ
weight_in w (Expression.empty r) = 0
weight_in w (Expression.pair r b c) = weight_in w b + weight_in w c
weight_in w (Expression.node r a c) = w a + weight_in w c
weight_in w (Expression.fill r b c) = weight_in w b + weight_in w c
weight_in w (Expression.part r a b c) = w a + (weight_in w b + weight_in w c)
weight_in w (Expression.join r b c) = weight_in w b + weight_in w c

-- where a row keeps its rule's sum, and the weight of its rule's own label, a word
abbrev pub at_sum : ℕ
at_sum = 10

abbrev pub at_weight : ℕ
at_weight = 28

abbrev pub sum_at : List ℕ → ℕ → ℕ
sum_at t k = field count_length t k at_sum

abbrev pub weight_at : List ℕ → ℕ → ℕ
weight_at t k = field word_length t k at_weight

-- the words of rows below n are the weights of their rules' own labels
abbrev pub WeightColumn : (ℕ → ℕ) → List ℕ → ℕ → Type 0
WeightColumn w t n = (r : ℕ) → r < n → weight_at t r ≡ own_weight w (rule_in t r)

-- the sum of row r's rule, from those that the rows hold for the rules that it names
abbrev pub sum_from : List ℕ → ℕ → ℕ
sum_from t r = capped_sum (weight_at t r) (named_sum capped_sum (sum_at t) (rule_in t r))

-- f obeys the recurrence of sums over the rules in rows below n
abbrev pub SumRecur : List ℕ → ℕ → (ℕ → ℕ) → Type 0
SumRecur t n f = (r : ℕ) → r < n → f r ≡ weight_at t r + named_sum ◌+◌ f (rule_in t r)

-- every row is given its sum, and nothing else has changed
pub record Summed (n : ℕ) (s t : List ℕ) : Type 0 where
  pub besides : Besides at_sum count_length n s t
  pub column : (f : ℕ → ℕ) → SumRecur s n f → Column t at_sum n f

-- c is rule r's sum, of any weight that the rows' words are and whatever expressions unfold the rules in the rows
pub record Totalled (n r : ℕ) (c : ℕ) (s t : List ℕ) : Type 0 where
  pub besides : Besides at_sum count_length n s t
  pub total : (w : ℕ → ℕ) → WeightColumn w s n → (E : ℕ → Expression) → Unfolds s n E → c ≡ capped (weight_in w (E r))
