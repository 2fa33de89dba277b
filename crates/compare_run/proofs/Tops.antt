-- The top of one stack: what is read of it says the next token of the stack's tokens, and what it comes to, put in its place, those after
-- it. Assumes nothing.
use Prim.Native.Nat.{ℕ, zero, suc, ◌+◌, ◌-◌, ◌*◌, ◌/◌, ◌≤◌, ◌<◌}
use native.Mathlib.Omega.{arith}
use mathlib.Core.Path.{◌≡◌, refl, sym, ap, ap₂, ◌∙◌}
use mathlib.Core.List.{List, [], ◌∷◌}
use lib.Dec.{eqb}
use borrow.Author.Tests.{eqb-true, eqb-false, eq-eqb, ne_eqb}
use Rattle.forest.specs.Expression.{Expression}
use Rattle.forest.specs.Spelling.{in_tokens}
use Rattle.forest.proofs.Cases.{by_bool}
use Rattle.record.specs.Record.{word_length}
use Rattle.work_rows.specs.Rows.{rule_in, Within}
use Rattle.work_rows.proofs.Rows.{within-number}
use Rattle.spread_step.specs.Task.{parts, close_task, no_task, task_by, task_turns, turns_in}
use Rattle.spread_step.specs.Step.{tasks_at, step_in}
use Rattle.spread_stack.specs.Stack.{tasks_spoken, tasks_turns, add_tasks, tasks_in, task_over}
use Rattle.spread_stack.specs.Run.{Stacked, on}
use Rattle.spread_stack.proofs.Turns.{Turned, turn}
use Rattle.spread_stack.proofs.Rows.{View}
use Rattle.spread_stack.proofs.Runs.{stacked-top}
use Rattle.compare_tokens.specs.Stacks.{tasks_tokens}
use Rattle.compare_run.specs.declared.Token.{Token}
use Rattle.compare_run.specs.Turn.{top_in, top_step, next_token, top_token}
use Rattle.compare_run.proofs.Tokens.{heard, said-heard, said-some, silent-ended}

-- the task on top, where there is one
pub top-over : (t : List ℕ) (from k : ℕ) → (k ≡ 0 → ⊥) → top_in t from k ≡ task_over t from (k - 1)
unfolding top_in
top-over t from zero some = absurd (some refl)
top-over t from (suc k) some = let e : suc k - 1 ≡ k = omega arith in rw e

pub top-none : (t : List ℕ) (from k : ℕ) → k ≡ 0 → top_in t from k ≡ no_task
unfolding top_in
top-none t from k q = rw q

pub top-list : (t : List ℕ) (from k : ℕ) → (top_in t from k ≡ no_task → ⊥) → tasks_in t from k ≡ top_in t from k ∷ tasks_in t from (k - 1)
unfolding top_in tasks_in
top-list t from zero some = absurd (some refl)
top-list t from (suc k) some = let e : suc k - 1 ≡ k = omega arith in rw e

-- tasks elsewhere stay
pub tasks-within : {a e : ℕ} {s t : List ℕ} → Within a e s t → (from k : ℕ) → (a < from + word_length * k → e ≤ from) → tasks_in t from k ≡ tasks_in s from k
unfolding tasks_in
tasks-within w from zero h = refl
tasks-within {a} {e} {s} {t} w from (suc k) h =
    ap₂ ◌∷◌ (within-number w word_length (from + word_length * k) (λ l. let m : e ≤ from = h (omega arith) in omega arith))
    (tasks-within w from k (λ l. h (omega arith)))

-- each task takes a turn
turns-some : (e : Expression) → 0 < turns_in e
unfolding turns_in
turns-some (Expression.empty r) = omega arith
turns-some (Expression.pair r b c) = omega arith
turns-some (Expression.node r a c) = omega arith
turns-some (Expression.fill r b c) = omega arith
turns-some (Expression.part r a b c) = omega arith
turns-some (Expression.join r b c) = omega arith

task-turns-some : (E : ℕ → Expression) (v : ℕ) → (v ≡ no_task → ⊥) → 0 < task_turns E v
unfolding task_turns task_by
task-turns-some E v some =
    rw (ne_eqb v no_task some)
    (by_bool (eqb v close_task) (λ u. rw u (omega arith)) (λ u. rw u (turns-some (E (v / parts)))))

stacked-some : {E : ℕ → Expression} {n H v : ℕ} {vs : List ℕ} → Stacked E n H (v ∷ vs) → v ≡ no_task → ⊥
stacked-some (on some a s) = some

stacked-rest : {E : ℕ → Expression} {n H v : ℕ} {vs : List ℕ} → Stacked E n H (v ∷ vs) → Stacked E n H vs
stacked-rest (on some a s) = s

-- no task on top: none at all
pub top-ended : {E : ℕ → Expression} {n H : ℕ} (t : List ℕ) (from k : ℕ) → Stacked E n H (tasks_in t from k) → top_in t from k ≡ no_task → k ≡ 0
unfolding top_in tasks_in
top-ended t from zero s q = refl
top-ended t from (suc k) s q = absurd (stacked-some s q)

-- no task says the end
pub none-ended : (t : List ℕ) (v : ℕ) → v ≡ no_task → top_token t v ≡ Token.Ended
unfolding next_token
none-ended t v q = rw (eq-eqb v no_task q)

-- a step is that of the rows
step-some : (t : List ℕ) (v : ℕ) → (v ≡ no_task → ⊥) → top_step t v ≡ step_in t v
unfolding top_step
step-some t v some = rw (ne_eqb v no_task some)

module _ {E : ℕ → Expression} {n H : ℕ} {t : List ℕ} (rows : View E n t) (from k : ℕ) (s : Stacked E n H (tasks_in t from k)) where
  -- where there is a task on top
  module _ (some : top_in t from k ≡ no_task → ⊥) where
    top-stacked : Stacked E n H (top_in t from k ∷ tasks_in t from (k - 1))
    top-stacked = rw (top-list t from k some) at s

    pub top-turned : Turned in_tokens E n H (top_in t from k) (tasks_in t from (k - 1)) (top_step t (top_in t from k))
    top-turned =
        rw (step-some t (top_in t from k) some)
        (turn in_tokens E n H (tasks_at t) (rule_in t) rows.stood rows.unfolds rows.named (top_in t from k) (tasks_in t from (k - 1)) top-stacked)

    -- its rule has a row
    pub top_below : (top_in t from k ≡ close_task → ⊥) → top_in t from k / parts < n
    top_below = (stacked-top top-stacked).0

    -- without it there are fewer turns to come
    pub rest-stacked : Stacked E n H (tasks_in t from (k - 1))
    rest-stacked = stacked-rest top-stacked

    pub rest-turns : tasks_turns E (tasks_in t from (k - 1)) < tasks_turns E (tasks_in t from k)
    unfolding tasks_turns
    rest-turns = rw (top-list t from k some) (omega (arith, task-turns-some E (top_in t from k) some))

    -- and with what it comes to in its place
    pub step-turns : tasks_turns E (add_tasks (top_step t (top_in t from k)) (tasks_in t from (k - 1))) < tasks_turns E (tasks_in t from k)
    step-turns = rw (top-list t from k some) top-turned.turns

  -- the stack's tokens, by the next one
  pub top-tokens : tasks_tokens E (tasks_in t from k)
      ≡ heard (top_token t (top_in t from k)) (tasks_tokens E (add_tasks (top_step t (top_in t from k)) (tasks_in t from (k - 1))))
  unfolding next_token
  top-tokens =
      by_bool (eqb (top_in t from k) no_task)
      (λ u.
      let z : k ≡ 0 = top-ended t from k s (eqb-true (top_in t from k) no_task u) in
      let e : tasks_tokens E (tasks_in t from k) ≡ [] = rw z (unfold tasks_in tasks_spoken in refl) in
      rw u (e ∙ (unfold heard in refl)))
      (λ u.
      let some : top_in t from k ≡ no_task → ⊥ = eqb-false (top_in t from k) no_task u in
      rw u
      (ap (tasks_tokens E) (top-list t from k some)
      ∙ (top-turned some).text
      ∙ said-heard (top_step t (top_in t from k)).said (tasks_tokens E (add_tasks (top_step t (top_in t from k)) (tasks_in t from (k - 1))))))

  -- a top that says nothing yet is a task
  pub top-silent : top_token t (top_in t from k) ≡ Token.Silent → top_in t from k ≡ no_task → ⊥
  top-silent q z = silent-ended (sym q ∙ none-ended t (top_in t from k) z)

-- and nothing else does
pub ended-none : (t : List ℕ) (v : ℕ) → top_token t v ≡ Token.Ended → v ≡ no_task
unfolding next_token
ended-none t v q =
    by_bool (eqb v no_task) (λ u. eqb-true v no_task u) (λ u. absurd (said-some (top_step t v).said (rw u at q)))
