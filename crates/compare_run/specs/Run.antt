-- Two stacks of tasks compared by their tokens, as a whole (document 02, Note 4).
use Rattle.std.specs.Prelude.{ℕ, ◌+◌, ◌*◌, ◌≤◌, ◌≡◌, List, length}
use Rattle.record.specs.Record.{word_length}
use Rattle.forest.specs.declared.Compared.{Compared}
use Rattle.forest.specs.Compare.{Found, within}
use Rattle.work_rows.specs.Rows.{Within}
use Rattle.spread_stack.specs.Stack.{tasks_in}
use Rattle.spread_stack.specs.Run.{meant, stack_at, Stacked, RowsTasked}
use Rattle.compare_tokens.specs.Tokens.{differs}
use Rattle.compare_tokens.specs.Stacks.{tasks_tokens}
use Rattle.compare_nodes.specs.Columns.{NodesKept}

-- how high a task may lie on a stack, with what it comes to; and the end of a stack's room
abbrev pub highest : ℕ → ℕ
highest n = 3 * n

abbrev pub stack_end : ℕ → ℕ → ℕ
stack_end n from = from + word_length * (highest n + 3)

-- j tasks on the first stack and k on the second can be compared: the rows have their tasks and node counts, and the stacks lie behind
-- them, one behind the other
pub record Comparable (t : List ℕ) (n first j second k : ℕ) : Type 0 where
  pub rows_tasked : RowsTasked t n
  pub nodes_kept : NodesKept t n
  pub one : Stacked (meant t n) n (highest n) (tasks_in t first j)
  pub two : Stacked (meant t n) n (highest n) (tasks_in t second k)
  pub behind : stack_at n ≤ first
  pub apart : stack_end n first ≤ second
  pub room : stack_end n second ≤ length t

-- where the tokens of the two stacks differ first, and the answer
abbrev pub stacks_differ : List ℕ → ℕ → ℕ → ℕ → ℕ → ℕ → Found
stacks_differ t n first j second k = differs (tasks_tokens (meant t n) (tasks_in t first j)) (tasks_tokens (meant t n) (tasks_in t second k))

-- the answer within the budget; of work nothing has changed but the stacks
pub record RunMade (n first j second k budget : ℕ) (x : Compared) (s t : List ℕ) : Type 0 where
  pub answer : x ≡ within budget (stacks_differ s n first j second k)
  pub within : Within first (stack_end n second) s t
