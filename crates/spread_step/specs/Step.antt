-- What a task comes to: bytes to write, and the tasks to do after them; and what the rows must have for it.
use Rattle.std.specs.Prelude.{ℕ, ◌+◌, ◌*◌, ◌/◌, ◌%◌, ◌≤◌, ◌<◌, ◌≡◌, cond, List, [], length, eqb}
use Rattle.record.specs.declared.Format.{Format}
use Rattle.rule.specs.declared.Rule.{Rule}
use Rattle.rule.specs.Names.{Names}
use Rattle.record.specs.Record.{word_length}
use Rattle.work_rows.specs.Rows.{row_length, field, rule_in}
use Rattle.forest.specs.Spelling.{Spelling, in_bytes}
use Rattle.count_passes.specs.Says.{before, after}
use Rattle.spread_step.specs.declared.Said.{Said}
use Rattle.spread_step.specs.declared.Step.{Step}
use Rattle.spread_step.specs.Task.{parts, close_task, no_task, task_limit, task_word}

-- what a step says, in a spelling, and the bytes that it writes
unfoldable pub said_in : Spelling → Said → List ℕ
said_in x Said.Nothing = []
said_in x (Said.Opening a) = x.opens a
said_in x Said.Closing = x.closes

abbrev pub said_bytes : Format → Said → List ℕ
said_bytes f y = said_in (in_bytes f) y

-- a step that writes x and leaves three tasks, of which the last comes first
abbrev pub leaving : Said → ℕ → ℕ → ℕ → Step
leaving x low mid high = record { said = x; low = low; mid = mid; high = high }

-- what a part p of rule r's text comes to; f gives the task of each whole rule
unfoldable pub rule_step : (ℕ → ℕ) → ℕ → ℕ → Rule → Step
rule_step f r p Rule.Empty = leaving Said.Nothing no_task no_task no_task
rule_step f r p (Rule.Pair b c) = leaving Said.Nothing (f c) (f b) no_task
rule_step f r p (Rule.Node a c) = leaving (Said.Opening a) close_task (f c) no_task
rule_step f r p (Rule.Fill b c) = leaving Said.Nothing (task_word b after) (f c) (task_word b before)
rule_step f r p (Rule.Part a b c) =
    cond (eqb p before) (leaving (Said.Opening a) (f b) no_task no_task) (leaving Said.Nothing close_task (f c) no_task)
rule_step f r p (Rule.Join b c) =
    cond (eqb p before)
    (leaving Said.Nothing (task_word c before) (task_word b before) no_task)
    (leaving Said.Nothing (task_word b after) (task_word c after) no_task)

-- what a task comes to; x gives each rule
unfoldable pub step_of : (ℕ → ℕ) → (ℕ → Rule) → ℕ → Step
unfolding rule_step
step_of f x v =
    cond (eqb v close_task) (leaving Said.Closing no_task no_task no_task) (rule_step f (v / parts) (v % parts) (x (v / parts)))

-- where a row keeps the task of its whole rule
abbrev pub at_task : ℕ
at_task = 30

abbrev pub tasks_at : List ℕ → ℕ → ℕ
tasks_at t k = field word_length t k at_task

-- row r can be read and keeps the rule x, and the rows that x names can be read; their numbers are small enough
pub record Steppable (t : List ℕ) (r : ℕ) (x : Rule) : Type 0 where
  pub room : row_length * (r + 1) ≤ length t
  pub few : r < task_limit
  pub named : (k : ℕ) → Names x k → (row_length * (k + 1) ≤ length t) × (k < task_limit)

-- task v can be decided: the closing task needs no row
abbrev pub Decidable : List ℕ → ℕ → Type 0
Decidable t v = (v ≡ close_task → ⊥) → Steppable t (v / parts) (rule_in t (v / parts))

-- what task v comes to, from the rows
abbrev pub step_in : List ℕ → ℕ → Step
step_in t v = step_of (tasks_at t) (rule_in t) v
