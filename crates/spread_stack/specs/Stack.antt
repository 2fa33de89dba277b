-- The stack of tasks: a list, the top first, and in the lent work words from an offset on, the top last, so that two stacks can lie in
-- one work.
use Rattle.std.specs.Prelude.{ℕ, zero, suc, ◌+◌, ◌*◌, ◌≤◌, ◌≡◌, cond, List, [], ◌∷◌, ◌++◌, length, take, drop, eqb}
use Rattle.words.specs.Number.{number}
use Rattle.record.specs.declared.Format.{Format}
use Rattle.record.specs.Record.{word_length}
use Rattle.forest.specs.Expression.{Expression}
use Rattle.forest.specs.Spelling.{Spelling, in_bytes}
use Rattle.work_rows.specs.Rows.{Within}
use Rattle.spread_step.specs.declared.Step.{Step}
use Rattle.spread_stack.specs.declared.State.{State}
use Rattle.spread_step.specs.Task.{no_task, task_spoken, task_turns}
use Rattle.spread_step.specs.Step.{said_bytes, Decidable, step_in}

-- what a stack says, in a spelling, and in bytes: its text; and how many tasks it comes to
unfoldable pub tasks_spoken : Spelling → (ℕ → Expression) → List ℕ → List ℕ
tasks_spoken x E [] = []
tasks_spoken x E (v ∷ vs) = task_spoken x E v ++ tasks_spoken x E vs

abbrev pub tasks_text : Format → (ℕ → Expression) → List ℕ → List ℕ
tasks_text f E vs = tasks_spoken (in_bytes f) E vs

unfoldable pub tasks_turns : (ℕ → Expression) → List ℕ → ℕ
tasks_turns E [] = 0
tasks_turns E (v ∷ vs) = task_turns E v + tasks_turns E vs

-- a task on top of others, and those of a step
unfoldable pub add_task : ℕ → List ℕ → List ℕ
add_task v vs = cond (eqb v no_task) vs (v ∷ vs)

unfoldable pub add_tasks : Step → List ℕ → List ℕ
unfolding add_task
add_tasks x vs = add_task x.high (add_task x.mid (add_task x.low vs))

-- k tasks from an offset on, the top first
unfoldable pub tasks_in : List ℕ → ℕ → ℕ → List ℕ
unfolding number
tasks_in t from zero = []
tasks_in t from (suc k) = number word_length t (from + word_length * k) ∷ tasks_in t from k

-- v put on k tasks, of which there are then j
pub record Pushed (from k v j : ℕ) (s t : List ℕ) : Type 0 where
  pub tasks : tasks_in t from j ≡ add_task v (tasks_in s from k)
  pub grown : j ≤ k + 1
  pub within : Within (from + word_length * k) (from + word_length * k + word_length) s t

-- the tasks of a step put on k others
pub record AllPushed (from k : ℕ) (x : Step) (j : ℕ) (s t : List ℕ) : Type 0 where
  pub tasks : tasks_in t from j ≡ add_tasks x (tasks_in s from k)
  pub within : Within from (from + word_length * (k + 3)) s t

-- the task over k others
abbrev pub task_over : List ℕ → ℕ → ℕ → ℕ
task_over t from k = number word_length t (from + word_length * k)

-- k tasks, the top one of them in hand: v, over the others
unfoldable pub tasks_held : ℕ → List ℕ → ℕ → ℕ → List ℕ
tasks_held v t from zero = []
tasks_held v t from (suc k) = v ∷ tasks_in t from k

-- of k tasks the top one is taken in hand
pub record Lifted (from k at : ℕ) (x : State) (t : List ℕ) : Type 0 where
  pub tasks : tasks_held x.task t from x.tasks ≡ tasks_in t from k
  pub stays : x.at ≡ at

-- the tasks of a step on k others, the top one in hand
pub record Held (from k : ℕ) (x : Step) (at : ℕ) (y : State) (s t : List ℕ) : Type 0 where
  pub tasks : tasks_held y.task t from y.tasks ≡ add_tasks x (tasks_in s from k)
  pub within : Within from (from + word_length * (k + 3)) s t
  pub stays : y.at ≡ at

-- a turn may be made: the task v over k others can be read, its bytes fit the output after at others, its tasks fit the stack
pub record Turnable (f : Format) (t out : List ℕ) (from v k at : ℕ) : Type 0 where
  pub steps : Decidable t v
  pub stack : from + word_length * (k + 3) ≤ length t
  pub fits : at + length (said_bytes f (step_in t v).said) ≤ length out

-- bytes written after at others
abbrev pub written : List ℕ → ℕ → List ℕ → List ℕ
written out at bs = take at out ++ (bs ++ drop (at + length bs) out)

-- after a turn
pub record TurnMade (f : Format) (from v k at : ℕ) (x : State) (s t out out' : List ℕ) : Type 0 where
  pub tasks : tasks_held x.task t from x.tasks ≡ add_tasks (step_in s v) (tasks_in s from k)
  pub within : Within from (from + word_length * (k + 3)) s t
  pub writes : out' ≡ written out at (said_bytes f (step_in s v).said)
  pub moves : x.at ≡ at + length (said_bytes f (step_in s v).said)
