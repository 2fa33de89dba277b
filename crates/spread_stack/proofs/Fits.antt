-- The tasks of a step put on others: the text and the number of tasks grow by the step's, and they lie low enough on the stack, since what
-- a rule names is lower than the rule and at most two tasks are put under it. Assumes nothing.
use Prim.Native.Nat.{ℕ, suc, ◌+◌, ◌*◌, ◌≤◌, ◌<◌, max}
use native.Mathlib.Omega.{arith}
use mathlib.Core.Path.{◌≡◌, refl, sym, ap, ◌∙◌}
use mathlib.Core.List.{List, [], ◌++◌, append_assoc}
use lib.Dec.{eqb}
use lib.ListN.{length}
use borrow.Author.Tests.{eqb-true, eqb-false}
use Rattle.rule.specs.declared.Rule.{Rule}
use Rattle.forest.specs.Expression.{Expression, rhs}
use Rattle.forest.specs.Spelling.{Spelling}
use Rattle.forest.specs.Sizes.{height}
use Rattle.rule.specs.Names.{Names, pair_one, pair_two, node_one, fill_one, fill_two, part_one, part_two, join_one, join_two}
use Rattle.count_passes.specs.Says.{before, after}
use Rattle.spread_step.specs.declared.Step.{Step}
use Rattle.spread_step.specs.Task.{close_task, task_word, no_task, task_spoken, task_turns, task_height}
use Rattle.spread_step.specs.Step.{rule_step}
use Rattle.spread_stack.specs.Stack.{tasks_spoken, tasks_turns, add_task, add_tasks}
use Rattle.spread_stack.specs.Run.{Fit, Stacked, on}
use Rattle.spread_step.proofs.Tasks.{by-test, text-none, turns-none, height-part, height-close, Stands}
use Rattle.spread_step.proofs.Steps.{step_spoken, step_turns}

-- a task more, and those of a step: what they say in a spelling
module _ (σ : Spelling) (E : ℕ → Expression) where
  no_text : (v : ℕ) → v ≡ no_task → task_spoken σ E v ≡ []
  no_text v q = ap (task_spoken σ E) q ∙ text-none σ E

  pub add-text : (v : ℕ) (vs : List ℕ) → tasks_spoken σ E (add_task v vs) ≡ task_spoken σ E v ++ tasks_spoken σ E vs
  unfolding add_task tasks_spoken
  add-text v vs =
      by-test (eqb v no_task)
      (λ u. rw u (ap (λ (l : List ℕ). l ++ tasks_spoken σ E vs) (sym (no_text v (eqb-true v no_task u)))))
      (λ u. rw u)

  pub adds-text : (x : Step) (vs : List ℕ) → tasks_spoken σ E (add_tasks x vs) ≡ step_spoken σ E x ++ tasks_spoken σ E vs
  unfolding add_tasks step_spoken
  adds-text x vs =
      rw (add-text x.high (add_task x.mid (add_task x.low vs)), add-text x.mid (add_task x.low vs), add-text x.low vs) (simp append_assoc)

-- how many tasks there are
module _ (E : ℕ → Expression) where
  no-turns : (v : ℕ) → v ≡ no_task → task_turns E v ≡ 0
  no-turns v q = ap (task_turns E) q ∙ turns-none E

  add-turns : (v : ℕ) (vs : List ℕ) → tasks_turns E (add_task v vs) ≡ task_turns E v + tasks_turns E vs
  unfolding add_task tasks_turns
  add-turns v vs =
      by-test (eqb v no_task)
      (λ u. rw u (let z : task_turns E v ≡ 0 = no-turns v (eqb-true v no_task u) in omega arith))
      (λ u. rw u)

  pub adds-turns : (x : Step) (vs : List ℕ) → tasks_turns E (add_tasks x vs) ≡ step_turns E x + tasks_turns E vs
  unfolding add_tasks step_turns
  adds-turns x vs =
      rw (add-turns x.high (add_task x.mid (add_task x.low vs)), add-turns x.mid (add_task x.low vs), add-turns x.low vs) (omega arith)

module _ (E : ℕ → Expression) (n H : ℕ) where
  pub fit_none : (k : ℕ) → Fit E n H k no_task
  fit_none k = record { reads = λ x. absurd (x refl); low = λ x. absurd (x refl) }

  fit-lower : (j k v : ℕ) → j ≤ k → Fit E n H k v → Fit E n H j v
  fit-lower j k v less a = record { reads = a.reads; low = λ x. let l : k + 2 * task_height E v ≤ H = a.low x in omega arith }

  pub fit-part : (k b q : ℕ) → b < n → q ≤ after → k + 2 * height (E b) ≤ H → Fit E n H k (task_word b q)
  fit-part k b q below small l = record { reads = λ x y. omega arith; low = λ x. omega (arith, height-part E b q small) }

  fit-close : (k : ℕ) → k ≤ H → Fit E n H k close_task
  fit-close k l = record { reads = λ x y. absurd (y refl); low = λ x. omega (arith, height-close E) }

  pub fit-whole : (k v : ℕ) (e : Expression) → Stands E n v e → k + 2 * height e ≤ H → Fit E n H k v
  fit-whole k v e s l = record { reads = λ x y. s.below x; low = λ x. omega (arith, s.high) }

  -- put on the stack
  length-add : (v : ℕ) (vs : List ℕ) → length (add_task v vs) ≤ suc (length vs)
  unfolding add_task
  length-add v vs = by-test (eqb v no_task) (λ u. rw u (omega arith)) (λ u. rw u (omega arith))

  pub add-stacked : (v : ℕ) (vs : List ℕ) → Fit E n H (length vs) v → Stacked E n H vs → Stacked E n H (add_task v vs)
  unfolding add_task
  add-stacked v vs a s = by-test (eqb v no_task) (λ u. rw u s) (λ u. rw u (on (eqb-false v no_task u) a s))

  pub adds-stacked : (x : Step) (vs : List ℕ) → Fit E n H (length vs) x.low → Fit E n H (suc (length vs)) x.mid
      → Fit E n H (suc (suc (length vs))) x.high → Stacked E n H vs → Stacked E n H (add_tasks x vs)
  unfolding add_tasks
  adds-stacked x vs a b c s =
      let one : length (add_task x.low vs) ≤ suc (length vs) = length-add x.low vs in
      let two : length (add_task x.mid (add_task x.low vs)) ≤ suc (length (add_task x.low vs)) = length-add x.mid (add_task x.low vs) in
      add-stacked x.high (add_task x.mid (add_task x.low vs)) (fit-lower (length (add_task x.mid (add_task x.low vs))) (suc (suc (length vs))) x.high (omega arith) c)
      (add-stacked x.mid (add_task x.low vs) (fit-lower (length (add_task x.low vs)) (suc (length vs)) x.mid (omega arith) b)
      (add-stacked x.low vs a s))

-- the tasks of a step on k others
pub record Fits (E : ℕ → Expression) (n H k : ℕ) (x : Step) : Type 0 where
  pub at_low : Fit E n H k x.low
  pub at_mid : Fit E n H (suc k) x.mid
  pub at_high : Fit E n H (suc (suc k)) x.high

-- one of two is lower than the larger
under_left : (a b : ℕ) → a ≤ max a b
under_left a b = omega arith

under-right : (a b : ℕ) → b ≤ max a b
under-right a b = omega arith

module _ (E : ℕ → Expression) (n : ℕ) (f : ℕ → ℕ) (S : (k : ℕ) → k < n → Stands E n (f k) (E k)) (r p H k : ℕ) where
  pub rule_fits : (x : Rule) → ((j : ℕ) → Names x j → j < n) → k + 2 * height (rhs r x E) ≤ H → Fits E n H k (rule_step f r p x)
  unfolding height rhs rule_step
  rule_fits Rule.Empty h l = record { at_low = fit_none E n H k; at_mid = fit_none E n H (suc k); at_high = fit_none E n H (suc (suc k)) }
  rule_fits (Rule.Pair b c) h l =
      let β : height (E b) ≤ max (height (E b)) (height (E c)) = under_left (height (E b)) (height (E c)) in
      let γ : height (E c) ≤ max (height (E b)) (height (E c)) = under-right (height (E b)) (height (E c)) in
      record {
        at_low = fit-whole E n H k (f c) (E c) (S c (h c pair_two)) (omega arith);
        at_mid = fit-whole E n H (suc k) (f b) (E b) (S b (h b pair_one)) (omega arith);
        at_high = fit_none E n H (suc (suc k));
      }
  rule_fits (Rule.Node a c) h l =
      record {
        at_low = fit-close E n H k (omega arith);
        at_mid = fit-whole E n H (suc k) (f c) (E c) (S c (h c node_one)) (omega arith);
        at_high = fit_none E n H (suc (suc k));
      }
  rule_fits (Rule.Fill b c) h l =
      let β : height (E b) ≤ max (height (E b)) (height (E c)) = under_left (height (E b)) (height (E c)) in
      let γ : height (E c) ≤ max (height (E b)) (height (E c)) = under-right (height (E b)) (height (E c)) in
      record {
        at_low = fit-part E n H k b after (h b fill_one) (omega arith) (omega arith);
        at_mid = fit-whole E n H (suc k) (f c) (E c) (S c (h c fill_two)) (omega arith);
        at_high = fit-part E n H (suc (suc k)) b before (h b fill_one) (omega arith) (omega arith);
      }
  rule_fits (Rule.Part a b c) h l =
      let β : height (E b) ≤ max (height (E b)) (height (E c)) = under_left (height (E b)) (height (E c)) in
      let γ : height (E c) ≤ max (height (E b)) (height (E c)) = under-right (height (E b)) (height (E c)) in
      by-test (eqb p before)
      (λ u. rw u
      (record {
        at_low = fit-whole E n H k (f b) (E b) (S b (h b part_one)) (omega arith);
        at_mid = fit_none E n H (suc k);
        at_high = fit_none E n H (suc (suc k));
      }))
      (λ u. rw u
      (record {
        at_low = fit-close E n H k (omega arith);
        at_mid = fit-whole E n H (suc k) (f c) (E c) (S c (h c part_two)) (omega arith);
        at_high = fit_none E n H (suc (suc k));
      }))
  rule_fits (Rule.Join b c) h l =
      let β : height (E b) ≤ max (height (E b)) (height (E c)) = under_left (height (E b)) (height (E c)) in
      let γ : height (E c) ≤ max (height (E b)) (height (E c)) = under-right (height (E b)) (height (E c)) in
      by-test (eqb p before)
      (λ u. rw u
      (record {
        at_low = fit-part E n H k c before (h c join_two) (omega arith) (omega arith);
        at_mid = fit-part E n H (suc k) b before (h b join_one) (omega arith) (omega arith);
        at_high = fit_none E n H (suc (suc k));
      }))
      (λ u. rw u
      (record {
        at_low = fit-part E n H k b after (h b join_one) (omega arith) (omega arith);
        at_mid = fit-part E n H (suc k) c after (h c join_two) (omega arith) (omega arith);
        at_high = fit_none E n H (suc (suc k));
      }))
