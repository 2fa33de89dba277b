-- What the passes over the rows and the loop over the stack need and leave, once the rules are loaded.
use Rattle.std.specs.Prelude.{ℕ, ◌+◌, ◌*◌, ◌/◌, ◌^◌, ◌≤◌, ◌<◌, ◌≡◌, List, [], ◌∷◌, length}
use Rattle.words.specs.Number.{base}
use Rattle.record.specs.declared.Format.{Format}
use Rattle.record.specs.Record.{word_length}
use Rattle.rule.specs.Sound.{Sound}
use Rattle.words.specs.Front.{in_front}
use Rattle.forest.specs.Expression.{Expression, expression}
use Rattle.work_rows.specs.Rows.{work_length, row_length, put_field, rule_in, first_rules, Within}
use Rattle.count_passes.specs.Tally.{Ready, Besides}
use Rattle.count_passes.specs.Says.{whole, says}
use Rattle.spread_step.specs.Task.{parts, close_task, no_task, task_limit, task_height, task_of, task_in}
use Rattle.spread_step.specs.Step.{at_task, tasks_at}
use Rattle.spread_stack.specs.Stack.{tasks_text, tasks_in}

-- the expression of each rule in the rows
abbrev pub meant : List ℕ → ℕ → ℕ → Expression
meant t n = expression (first_rules t n)

-- a task that may be put on k others: its rule, if it has one, is below n, and what it comes to stays below the height H
pub record Fit (E : ℕ → Expression) (n H k v : ℕ) : Type 0 where
  pub reads : (v ≡ no_task → ⊥) → (v ≡ close_task → ⊥) → v / parts < n
  pub low : (v ≡ no_task → ⊥) → k + 2 * task_height E v ≤ H

-- a stack of such tasks, the top first
pub data Stacked (E : ℕ → Expression) (n H : ℕ) : List ℕ → Type 0 where
  none : Stacked E n H []
  on : {v : ℕ} {vs : List ℕ} → (v ≡ no_task → ⊥) → Fit E n H (length vs) v → Stacked E n H vs → Stacked E n H (v ∷ vs)

-- the bytes of a row's rules, and of work, that the stack lies between
abbrev pub stack_at : ℕ → ℕ
stack_at n = row_length * n

abbrev pub work_end : ℕ → ℕ
work_end n = work_length * n

-- the rows of n rules can be given their tasks, in the order that is kept behind them
pub record Taskable (t : List ℕ) (n : ℕ) : Type 0 where
  pub ready : Ready t n
  pub few : n ≤ task_limit

-- row r is given its task
pub record TaskPut (r : ℕ) (s t : List ℕ) : Type 0 where
  pub writes : t ≡ put_field word_length s r at_task (task_of (tasks_at s) r (rule_in s r))
  pub small : task_of (tasks_at s) r (rule_in s r) < base ^ 2

-- f obeys the recurrence of tasks
abbrev pub TaskRecurs : List ℕ → ℕ → (ℕ → ℕ) → Type 0
TaskRecurs t n f = (r : ℕ) → r < n → f r ≡ task_of f r (rule_in t r)

-- every row is given its task
pub record Tasked (n : ℕ) (s t : List ℕ) : Type 0 where
  pub besides : Besides at_task word_length n s t
  pub column : (f : ℕ → ℕ) → TaskRecurs s n f → (k : ℕ) → k < n → tasks_at t k ≡ f k

-- the rows are sound and have their tasks
pub record RowsTasked (t : List ℕ) (n : ℕ) : Type 0 where
  pub rank : ℕ → ℕ
  pub sound : Sound (first_rules t n) rank
  pub few : n ≤ task_limit
  pub least : 1 ≤ n
  pub room : work_end n ≤ length t
  pub tasks : (k : ℕ) → k < n → tasks_at t k ≡ task_in (meant t n k)

-- the text of k tasks
abbrev pub stack_text : Format → List ℕ → ℕ → ℕ → List ℕ
stack_text f t n k = tasks_text f (meant t n) (tasks_in t (stack_at n) k)

-- the k tasks can be run: each fits the stack, and their text the output
pub record Runnable (f : Format) (t out : List ℕ) (n k : ℕ) : Type 0 where
  pub rows_tasked : RowsTasked t n
  pub stacked : Stacked (meant t n) n (2 * n) (tasks_in t (stack_at n) k)
  pub fits : length (stack_text f t n k) ≤ length out

-- a text is written to the front of the output; of work nothing has changed but the stack
pub record Ran (n : ℕ) (text : List ℕ) (x : ℕ) (s t out out' : List ℕ) : Type 0 where
  pub long : x ≡ length text
  pub writes : out' ≡ in_front text out
  pub within : Within (stack_at n) (work_end n) s t

-- rule r can be spread
pub record Spreadable (f : Format) (t out : List ℕ) (n r : ℕ) : Type 0 where
  pub rows_tasked : RowsTasked t n
  pub below : r < n
  pub fits : length (says f (meant t n r) whole) ≤ length out
