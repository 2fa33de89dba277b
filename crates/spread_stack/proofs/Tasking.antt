-- The pass that gives each row the task of its whole rule: a task depends on those of the rules named, which come earlier in the order, so
-- the rows at the first places obey the recurrence of tasks, and the next row after it is written. Assumes nothing.
use Prim.Native.Nat.{ℕ, ◌+◌, ◌^◌, ◌≤◌, ◌<◌}
use native.Mathlib.Omega.{arith}
use mathlib.Core.Path.{◌≡◌, sym, ap, ◌∙◌}
use mathlib.Core.List.{List}
use lib.ListN.{length, get_or}
use Rattle.words.specs.Number.{base}
use Rattle.rule.specs.declared.Rule.{Rule}
use Rattle.record.specs.Record.{word_length}
use Rattle.reach.proofs.Places.{AtFirst, first_more}
use Rattle.work_rows.specs.Rows.{put_field, rule_in}
use Rattle.work_rows.specs.Order.{order_end, order_in}
use Rattle.work_rows.proofs.Rows.{field-same}
use Rattle.count_passes.specs.Tally.{Ready, Besides}
use Rattle.count_passes.proofs.Column.{besides-both, besides-put, besides-rule, other_row}
use Rattle.count_passes.proofs.Ordered.{at_place, place-below, named-below, before-named, at_all, order-besides, ready-besides}
use Rattle.spread_step.specs.Task.{task_of}
use Rattle.spread_step.specs.Step.{at_task, tasks_at, Steppable}
use Rattle.spread_stack.specs.Run.{Taskable, TaskPut, TaskRecurs, Tasked}
use Rattle.spread_step.proofs.Tasks.{task-same}

pub task-put : {r v : ℕ} {x : Rule} (s : List ℕ) {t : List ℕ} → x ≡ rule_in s r → v ≡ task_of (tasks_at s) r x → v < base ^ 2 → t ≡ put_field word_length s r at_task v
    → TaskPut r s t
task-put {r} {v} s q e small w =
    let d : v ≡ task_of (tasks_at s) r (rule_in s r) = e ∙ ap (task_of (tasks_at s) r) q in
    record { writes = w ∙ ap (put_field word_length s r at_task) d; small = rw d at small }

-- the pass so far: the rows at the first i places of the order have their tasks
pub record Passing (n i : ℕ) (s t : List ℕ) : Type 0 where
  pub below : i ≤ n
  pub besides : Besides at_task word_length n s t
  pub column : (f : ℕ → ℕ) → TaskRecurs s n f → AtFirst (order_in s n) i (λ k. tasks_at t k ≡ f k)

-- the task of the rule at the next place, from those of the rules that it names
row-task : (s t : List ℕ) (n i : ℕ) (f : ℕ → ℕ) → Ready s n → i < n → rule_in t (at_place s n i) ≡ rule_in s (at_place s n i) → TaskRecurs s n f
    → AtFirst (order_in s n) i (λ k. tasks_at t k ≡ f k) → task_of (tasks_at t) (at_place s n i) (rule_in t (at_place s n i)) ≡ f (at_place s n i)
row-task s t n i f a below same recurs h =
    ap (task_of (tasks_at t) (at_place s n i)) same
    ∙ task-same (tasks_at t) f (at_place s n i) (rule_in s (at_place s n i)) (before-named a (λ k. tasks_at t k ≡ f k) i below h)
    ∙ sym (recurs (at_place s n i) (place-below a i below))

module _ {n i : ℕ} {s t : List ℕ} (a : Taskable s n) (p : Passing n i s t) where
  -- the order is still there, and a row may be given its task whatever its place
  pub passing-room : order_end n ≤ length t
  passing-room = let l : length t ≡ length s = p.besides.beyond.same_length in omega (arith, a.ready.room)

  pub passing-steps : {r j : ℕ} → r ≡ at_place t n j → j < n → Steppable t r (rule_in t r)
  passing-steps {r} {j} e below =
      let now : Ready t n = ready-besides p.besides (omega arith) a.ready in
      let inside : r < n = rw e (place-below now j below) in
      let room : order_end n ≤ length t = passing-room in
      record {
        room = omega arith;
        few = omega (arith, a.few);
        named = λ k m. let l : k < n = named-below now r k inside m in (omega arith, omega (arith, a.few));
      }

  -- the row at the next place
  pub passing-more : {r : ℕ} {u : List ℕ} → i < n → r ≡ at_place t n i → TaskPut r t u → Passing n (i + 1) s u
  passing-more {r} {u} below e new =
      let e' : r ≡ at_place s n i = e ∙ ap (λ (l : List ℕ). get_or l i 0) (order-besides p.besides) in
      let new' : TaskPut (at_place s n i) t u = rw e' at new in
      let task : ℕ = task_of (tasks_at t) (at_place s n i) (rule_in t (at_place s n i)) in
      let inside : at_place s n i < n = place-below a.ready i below in
      let room : order_end n ≤ length t = passing-room in
      rw new'.writes
      (record {
        below = omega arith;
        besides = besides-both p.besides (besides-put word_length t (at_place s n i) at_task task n inside (omega arith));
        column = λ f recurs.
            first_more (order_in s n) i (λ k. tasks_at t k ≡ f k) (λ k. tasks_at (put_field word_length t (at_place s n i) at_task task) k ≡ f k)
            (λ k ne q. other_row word_length t (at_place s n i) at_task task k (omega arith) ne ∙ q)
            (field-same word_length t (at_place s n i) at_task task (omega arith) new'.small
            ∙ row-task s t n i f a.ready below (besides-rule p.besides (omega arith) (at_place s n i)) recurs (p.column f recurs))
            (p.column f recurs);
      })

  pub passing-end : n ≤ i → Tasked n s t
  passing-end past =
      let e : i ≡ n = omega (arith, p.below) in
      record { besides = p.besides; column = λ f recurs. at_all a.ready (λ k. tasks_at t k ≡ f k) (rw e at (p.column f recurs)) }
