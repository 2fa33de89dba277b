-- What a step needs to know of the rows: each rule's task stands for it, its expression unfolds, the rules that it names have rows. What
-- is written past the rows changes none of it. Assumes nothing.
use Prim.Native.Nat.{ℕ, ◌<◌}
use native.Mathlib.Omega.{arith}
use mathlib.Core.Path.{◌≡◌, ap, subst, ◌∙◌}
use mathlib.Core.List.{List}
use lib.ListN.{length}
use Rattle.rule.specs.declared.Rule.{Rule}
use Rattle.rule.specs.Names.{Names}
use Rattle.record.specs.Record.{word_length}
use Rattle.rule.specs.Sound.{rule, Sound}
use Rattle.forest.specs.Expression.{Expression, rhs, expression}
use Rattle.forest.proofs.Unfold.{named-below, unfolding-equation}
use Rattle.work_rows.specs.Rows.{rule_in, Within, first_rules}
use Rattle.work_rows.proofs.Rows.{within-rule, within-field}
use Rattle.work_rows.proofs.Kept.{first-length, first-rule}
use Rattle.spread_step.specs.Task.{task_in}
use Rattle.spread_step.specs.Step.{at_task, tasks_at}
use Rattle.spread_stack.specs.Run.{meant, stack_at, RowsTasked, TaskRecurs}
use Rattle.spread_step.proofs.Tasks.{Stands, stands, task-rhs}

-- what a step needs to know of the rows
pub record View (E : ℕ → Expression) (n : ℕ) (t : List ℕ) : Type 0 where
  pub stood : (k : ℕ) → k < n → Stands E n (tasks_at t k) (E k)
  pub unfolds : (k : ℕ) → k < n → E k ≡ rhs k (rule_in t k) E
  pub named : (k : ℕ) → k < n → (j : ℕ) → Names (rule_in t k) j → j < n

pub view : (s : List ℕ) (n : ℕ) → RowsTasked s n → View (meant s n) n s
view s n a =
    let long : length (first_rules s n) ≡ n = first-length s n in
    record {
      stood = λ k below. rw (a.tasks k below) (subst (λ (m : ℕ). Stands (meant s n) m (task_in (meant s n k)) (meant s n k)) long (stands a.sound k (omega arith)));
      unfolds = λ k below. rw (← (first-rule s n k below)) (unfolding-equation a.sound k (omega arith));
      named = λ k below j m.
          let l : j < length (first_rules s n) = named-below a.sound k j (omega arith) (rw (first-rule s n k below) m) in omega arith;
    }

-- rows below what has changed
pub rule-kept : {s t : List ℕ} (n e : ℕ) → Within (stack_at n) e s t → (k : ℕ) → k < n → rule_in t k ≡ rule_in s k
rule-kept n e w k below = within-rule w k (λ l. absurd (omega arith))

pub task-kept : {s t : List ℕ} (n e : ℕ) → Within (stack_at n) e s t → (k : ℕ) → k < n → tasks_at t k ≡ tasks_at s k
task-kept n e w k below = within-field w word_length k at_task (λ l. absurd (omega arith))

pub view-kept : {E : ℕ → Expression} {s t : List ℕ} (n e : ℕ) → Within (stack_at n) e s t → View E n s → View E n t
view-kept n e w a =
    record {
      stood = λ k below. rw (task-kept n e w k below) (a.stood k below);
      unfolds = λ k below. rw (rule-kept n e w k below) (a.unfolds k below);
      named = λ k below. rw (rule-kept n e w k below) (a.named k below);
    }

-- the tasks of expressions obey the recurrence of tasks
pub task-recurs : {R : List Rule} {rank : ℕ → ℕ} (t : List ℕ) (n : ℕ) → Sound R rank → length R ≡ n → ((k : ℕ) → k < n → rule_in t k ≡ rule R k)
    → TaskRecurs t n (λ k. task_in (expression R k))
task-recurs {R} t n S long same r below =
    rw (same r below) (ap task_in (unfolding-equation S r (omega arith)) ∙ task-rhs r (expression R) (rule R r))
