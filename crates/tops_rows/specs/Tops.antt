-- A word of each row of work that says how many trees its rule has, or nodes above its hole (document 02, Note 12: "some sibling place on its
-- path exceeds 65,535"): so many that a place could be too large are told as 65,535.
use Rattle.std.specs.Prelude.{ℕ, ◌+◌, min, ◌<◌, ◌≡◌, List}
use Rattle.record.specs.Record.{word_length}
use Rattle.rule.specs.declared.Rule.{Rule}
use Rattle.forest.specs.Expression.{expression}
use Rattle.work_rows.specs.Rows.{field, put_field, rule_in, first_rules}
use Rattle.count_passes.specs.Tally.{Besides}
use Rattle.transfer_path.specs.Follow.{most_place}
use Rattle.transfer_path.specs.Spot.{tops}

-- where a row keeps them, behind what is known of the rule
abbrev pub at_tops : ℕ
at_tops = 30

abbrev pub tops_at : List ℕ → ℕ → ℕ
tops_at t k = field word_length t k at_tops

-- the sum as far as it is told
abbrev pub few_sum : ℕ → ℕ → ℕ
few_sum a b = min (a + b) most_place

-- the trees of a rule, or the nodes above its hole, from those of the rules that it names
unfoldable pub tops_of : (ℕ → ℕ → ℕ) → (ℕ → ℕ) → Rule → ℕ
tops_of add f Rule.Empty = 0
tops_of add f (Rule.Pair b c) = add (f b) (f c)
tops_of add f (Rule.Node a c) = 1
tops_of add f (Rule.Fill b c) = 1
tops_of add f (Rule.Part a b c) = 1
tops_of add f (Rule.Join b c) = add (f b) (f c)

abbrev pub tops_from : List ℕ → Rule → ℕ
tops_from t x = tops_of few_sum (tops_at t) x

-- row r is given its number
pub record TopsPut (r : ℕ) (s t : List ℕ) : Type 0 where
  pub writes : t ≡ put_field word_length s r at_tops (tops_from s (rule_in s r))

-- f obeys the recurrence over the rules in rows below n
abbrev pub TopsRecur : List ℕ → ℕ → (ℕ → ℕ) → Type 0
TopsRecur t n f = (r : ℕ) → r < n → f r ≡ tops_of ◌+◌ f (rule_in t r)

-- every row is given its number, and nothing else has changed
pub record Topped (n : ℕ) (s t : List ℕ) : Type 0 where
  pub besides : Besides at_tops word_length n s t
  pub column : (f : ℕ → ℕ) → TopsRecur s n f → (k : ℕ) → k < n → tops_at t k ≡ min (f k) most_place

-- the column holds the trees of each rule's expression
pub record TopsKept (t : List ℕ) (n : ℕ) : Type 0 where
  pub tells : (k : ℕ) → k < n → tops_at t k ≡ min (tops (expression (first_rules t n) k)) most_place
