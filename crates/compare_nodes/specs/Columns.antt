-- Two columns of the rows that compare counts with (document 02, Note 4: "same, differ or spent, and a count"): the nodes before each
-- rule's hole and those after it, of a closed rule both all its nodes, exact up to 2^64 − 1. So what both sides share is counted at once.
use Rattle.std.specs.Prelude.{ℕ, ◌+◌, ◌*◌, ◌/◌, ◌≤◌, ◌<◌, ◌≡◌, List, length}
use Rattle.rule.specs.declared.Rule.{Rule}
use Rattle.work_rows.specs.Rows.{row_length, field, put_field, rule_in}
use Rattle.count_capped.specs.Count.{capped, capped_sum, count_length}
use Rattle.count_passes.specs.Tally.{Besides, Column}
use Rattle.spread_step.specs.Task.{parts, close_task, no_task, task_by}
use Rattle.spread_stack.specs.Run.{meant}
use Rattle.compare_tokens.specs.Nodes.{before_in, after_in, by_part, before_of, after_of}

-- where a row keeps its two counts
abbrev pub at_before : ℕ
at_before = 10

abbrev pub at_after : ℕ
at_after = 20

abbrev pub before_at : List ℕ → ℕ → ℕ
before_at t k = field count_length t k at_before

abbrev pub after_at : List ℕ → ℕ → ℕ
after_at t k = field count_length t k at_after

-- the two counts of a rule, from those that the rows hold for the rules that it names
abbrev pub before_from : List ℕ → Rule → ℕ
before_from t x = before_of capped_sum (before_at t) (after_at t) x

abbrev pub after_from : List ℕ → Rule → ℕ
after_from t x = after_of capped_sum (before_at t) (after_at t) x

-- row r is given its counts
pub record NodesPut (r : ℕ) (s t : List ℕ) : Type 0 where
  pub writes : t ≡ put_field count_length (put_field count_length s r at_before (before_from s (rule_in s r))) r at_after (after_from s (rule_in s r))

-- b and a obey the recurrences of the two counts over the rules in rows below n
abbrev pub NodesRecur : List ℕ → ℕ → (ℕ → ℕ) → (ℕ → ℕ) → Type 0
NodesRecur t n b a = (r : ℕ) → r < n → (b r ≡ before_of ◌+◌ b a (rule_in t r)) × (a r ≡ after_of ◌+◌ b a (rule_in t r))

-- every row is given its counts, and nothing else has changed
pub record Noded (n : ℕ) (s t : List ℕ) : Type 0 where
  pub besides : Besides at_before (count_length + count_length) n s t
  pub columns : (b a : ℕ → ℕ) → NodesRecur s n b a → Column t at_before n b × Column t at_after n a

-- the columns hold the nodes before and after the hole of each rule's expression
pub record NodesKept (t : List ℕ) (n : ℕ) : Type 0 where
  pub before : (k : ℕ) → k < n → before_at t k ≡ capped (before_in (meant t n k))
  pub after : (k : ℕ) → k < n → after_at t k ≡ capped (after_in (meant t n k))

-- the nodes that task v opens, by the columns; a closing, and no task, open none
unfoldable pub task_nodes_in : List ℕ → ℕ → ℕ
task_nodes_in t v = task_by 0 0 (λ r p. by_part p (before_at t r) (after_at t r)) v

-- P, where v is a task of some rule
abbrev pub OfRule : ℕ → Type 0 → Type 0
OfRule v P = (v ≡ no_task → ⊥) → (v ≡ close_task → ⊥) → P

-- the row of task v's rule, if it has one, lies in t
abbrev pub Countable : List ℕ → ℕ → Type 0
Countable t v = OfRule v (row_length * (v / parts + 1) ≤ length t)
