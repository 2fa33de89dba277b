-- What a pass over the rows needs, and what it leaves: a column of counts, and everything else as it was.
use Rattle.std.specs.Prelude.{ℕ, ◌+◌, ◌*◌, ◌≤◌, ◌<◌, ◌≡◌, List, length}
use Rattle.rule.specs.declared.Rule.{Rule}
use Rattle.rule.specs.Names.{Names}
use Rattle.reach.specs.Order.{Ranged, Orders}
use Rattle.forest.specs.Expression.{Expression, rhs}
use Rattle.work_rows.specs.Rows.{row_length, field, rule_in, first_rules, Beyond}
use Rattle.work_rows.specs.Order.{order_end, order_in}
use Rattle.count_capped.specs.Count.{capped, count_length}

-- the rows of n rules lie in t, with an order of them behind, in which each comes after those that it names
pub record Ready (t : List ℕ) (n : ℕ) : Type 0 where
  pub room : order_end n ≤ length t
  pub ranged : Ranged (first_rules t n)
  pub order : Orders (first_rules t n) (order_in t n)

-- the rows of the rules that x names lie in t
pub record NamedRows (t : List ℕ) (x : Rule) : Type 0 where
  pub named : (k : ℕ) → Names x k → row_length * (k + 1) ≤ length t

-- row r and those that its rule names lie in t
pub record Readable (t : List ℕ) (r : ℕ) : Type 0 where
  pub room : row_length * (r + 1) ≤ length t
  pub rows : NamedRows t (rule_in t r)

-- rows below i have f at offset o, capped
abbrev pub Column : List ℕ → ℕ → ℕ → (ℕ → ℕ) → Type 0
Column t o i f = (k : ℕ) → k < i → field count_length t k o ≡ capped (f k)

-- E gives each rule in the rows below n its right-hand side over the rules that it names
pub record Unfolds (t : List ℕ) (n : ℕ) (E : ℕ → Expression) : Type 0 where
  pub unfolds : (r : ℕ) → r < n → E r ≡ rhs r (rule_in t r) E

-- nothing has changed but w bytes at offset o of rows below n
pub record Besides (o w n : ℕ) (s t : List ℕ) : Type 0 where
  pub fields : (v p k : ℕ) → p + v ≤ row_length → (o < p + v → o + w ≤ p) → field v t k p ≡ field v s k p
  pub beyond : Beyond n s t
