-- One turn of compare over two stacks of tasks (document 02, Note 4: "compare them pair by pair"): what is read of each stack, and what
-- a turn does.
use Rattle.std.specs.Prelude.{ℕ, zero, suc, ◌+◌, ◌-◌, ◌*◌, ◌≤◌, min, ◌≡◌, Bool, false, cond, List, length, eqb}
use Rattle.record.specs.Record.{word_length}
use Rattle.spread_step.specs.declared.Said.{Said}
use Rattle.spread_step.specs.declared.Step.{Step}
use Rattle.spread_step.specs.Task.{no_task}
use Rattle.spread_step.specs.Step.{leaving, step_in, Decidable}
use Rattle.spread_stack.specs.Stack.{task_over, AllPushed}
use Rattle.compare_nodes.specs.Columns.{task_nodes_in}
use Rattle.compare_run.specs.declared.Progress.{Progress}
use Rattle.compare_run.specs.declared.Token.{Token}

-- the task on top of k tasks; no task where there are none
unfoldable pub top_in : List ℕ → ℕ → ℕ → ℕ
top_in t from zero = no_task
top_in t from (suc k) = task_over t from k

-- what it comes to
unfoldable pub top_step : List ℕ → ℕ → Step
top_step t v = cond (eqb v no_task) (leaving Said.Nothing no_task no_task no_task) (step_in t v)

-- the next token of a stack: none yet, that there is no more, a node closed, or a node opened with its label
unfoldable pub said_token : Said → Token
said_token Said.Nothing = Token.Silent
said_token (Said.Opening a) = Token.Opens a
said_token Said.Closing = Token.Closes

unfoldable pub next_token : ℕ → Said → Token
next_token v x = cond (eqb v no_task) Token.Ended (said_token x)

abbrev pub top_token : List ℕ → ℕ → Token
top_token t v = next_token v (top_step t v).said

-- the nodes that a token counts
unfoldable pub token_nodes : Token → ℕ
token_nodes Token.Silent = 1
token_nodes Token.Ended = 1
token_nodes Token.Closes = 0
token_nodes (Token.Opens a) = 1

-- how far it has come after a turn: how many tasks are left, whether all agreed, and how many pairs of nodes that is
abbrev pub progress : ℕ → ℕ → Bool → ℕ → Progress
progress j k b c = record { one = j; two = k; agree = b; count = c }

-- a task can be read, if it is one
abbrev pub Readable : List ℕ → ℕ → Type 0
Readable t v = (v ≡ no_task → ⊥) → Decidable t v

-- a turn may be made: the tasks on top can be read, what they come to fits the stacks, and the count is within the budget
pub record Turnable (t : List ℕ) (first second budget : ℕ) (x : Progress) : Type 0 where
  pub reads_one : Readable t (top_in t first x.one)
  pub reads_two : Readable t (top_in t second x.two)
  pub room_one : first + word_length * (x.one - 1 + 3) ≤ length t
  pub room_two : second + word_length * (x.two - 1 + 3) ≤ length t
  pub counted : x.count ≤ budget

-- what a turn does, from the tasks v and w on top: work before and after it, and how far it has come then
pub data TurnMade (first second budget : ℕ) (x : Progress) (v w : ℕ) (s : List ℕ) : Progress → List ℕ → Type 0 where
  -- the same task: skipped, with its nodes; a count above the budget is no longer exact
  skipped : v ≡ w
      → TurnMade first second budget x v w s (progress (x.one - 1) (x.two - 1) x.agree (min (x.count + task_nodes_in s v) (budget + 1))) s
  -- one of them that says no token yet, replaced by what it comes to
  first_replaced : {j : ℕ} {t : List ℕ} → top_token s v ≡ Token.Silent → AllPushed first (x.one - 1) (top_step s v) j s t
      → TurnMade first second budget x v w s (progress j x.two x.agree x.count) t
  second_replaced : {k : ℕ} {t : List ℕ} → top_token s w ≡ Token.Silent → AllPushed second (x.two - 1) (top_step s w) k s t
      → TurnMade first second budget x v w s (progress x.one k x.agree x.count) t
  -- two tokens that differ, or one against an ended list: the next pair of nodes differs, and no task is left
  parted : (top_token s v ≡ Token.Silent → ⊥) → (top_token s w ≡ Token.Silent → ⊥) → (top_token s v ≡ top_token s w → ⊥)
      → TurnMade first second budget x v w s (progress 0 0 false (x.count + 1)) s
  -- the same token: both replaced
  both_replaced : {j k : ℕ} {t u : List ℕ} → (v ≡ w → ⊥) → (top_token s v ≡ Token.Silent → ⊥) → top_token s v ≡ top_token s w
      → AllPushed first (x.one - 1) (top_step s v) j s t → AllPushed second (x.two - 1) (top_step s w) k t u
      → TurnMade first second budget x v w s (progress j k x.agree (x.count + token_nodes (top_token s v))) u
