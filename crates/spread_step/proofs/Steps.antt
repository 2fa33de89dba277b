-- One step: what a task comes to writes and leaves exactly the task's text, and leaves tasks that come to fewer than it did.
-- Assumes nothing.
use Prim.Native.Nat.{ℕ, ◌+◌, ◌<◌}
use native.Mathlib.Omega.{arith}
use mathlib.Core.Path.{◌≡◌}
use mathlib.Core.List.{List, ◌++◌}
use lib.Dec.{eqb}
use Rattle.rule.specs.declared.Rule.{Rule}
use Rattle.forest.specs.Expression.{Expression, rhs}
use Rattle.forest.specs.Spelling.{Spelling}
use Rattle.rule.specs.Names.{Names, pair_one, pair_two, node_one, fill_two, part_one, part_two}
use Rattle.count_passes.specs.Says.{before, after, spoken}
use Rattle.spread_step.specs.declared.Step.{Step}
use Rattle.spread_step.specs.Task.{task_spoken, turns_in, task_turns}
use Rattle.spread_step.specs.Step.{said_in, rule_step}
use Rattle.spread_step.proofs.Tasks.{by-test, text-part, text-close, text-none, turns-part, turns-close, turns-none, Stands}

-- the tasks of a step
unfoldable pub step_spoken : Spelling → (ℕ → Expression) → Step → List ℕ
step_spoken s E x = task_spoken s E x.high ++ (task_spoken s E x.mid ++ task_spoken s E x.low)

unfoldable pub step_turns : (ℕ → Expression) → Step → ℕ
step_turns E x = task_turns E x.high + task_turns E x.mid + task_turns E x.low

-- the tasks of a right-hand side: f gives a task for each whole rule named
module _ (E : ℕ → Expression) (n : ℕ) (f : ℕ → ℕ) (S : (k : ℕ) → k < n → Stands E n (f k) (E k)) (r p : ℕ) where
  -- what it says, in a spelling
  pub rule-text : (φ : Spelling) (x : Rule) → ((k : ℕ) → Names x k → k < n)
      → spoken φ (rhs r x E) p ≡ said_in φ (rule_step f r p x).said ++ step_spoken φ E (rule_step f r p x)
  unfolding spoken rhs rule_step said_in step_spoken
  rule-text φ Rule.Empty h = rw (text-none φ E)
  rule-text φ (Rule.Pair b c) h = rw (text-none φ E, (S b (h b pair_one)).text φ, (S c (h c pair_two)).text φ)
  rule-text φ (Rule.Node a c) h = rw (text-none φ E, (S c (h c node_one)).text φ, text-close φ E)
  rule-text φ (Rule.Fill b c) h =
      rw (text-part φ E b before (omega arith), (S c (h c fill_two)).text φ, text-part φ E b after (omega arith))
  rule-text φ (Rule.Part a b c) h =
      by-test (eqb p before)
      (λ u. rw (u, text-none φ E, (S b (h b part_one)).text φ))
      (λ u. rw (u, text-none φ E, (S c (h c part_two)).text φ, text-close φ E))
  rule-text φ (Rule.Join b c) h =
      by-test (eqb p before)
      (λ u. rw (u, text-none φ E, text-part φ E b before (omega arith), text-part φ E c before (omega arith)))
      (λ u. rw (u, text-none φ E, text-part φ E b after (omega arith), text-part φ E c after (omega arith)))

  -- fewer tasks to come
  pub rule-turns : (x : Rule) → ((k : ℕ) → Names x k → k < n) → step_turns E (rule_step f r p x) < turns_in (rhs r x E)
  unfolding turns_in rhs rule_step step_turns
  rule-turns Rule.Empty h = omega (arith, turns-none E)
  rule-turns (Rule.Pair b c) h = omega (arith, turns-none E, (S b (h b pair_one)).turns, (S c (h c pair_two)).turns)
  rule-turns (Rule.Node a c) h = omega (arith, turns-none E, (S c (h c node_one)).turns, turns-close E)
  rule-turns (Rule.Fill b c) h =
      omega (arith, turns-part E b before (omega arith), (S c (h c fill_two)).turns, turns-part E b after (omega arith))
  rule-turns (Rule.Part a b c) h =
      by-test (eqb p before)
      (λ u. rw u (omega (arith, turns-none E, (S b (h b part_one)).turns)))
      (λ u. rw u (omega (arith, turns-none E, (S c (h c part_two)).turns, turns-close E)))
  rule-turns (Rule.Join b c) h =
      by-test (eqb p before)
      (λ u. rw u (omega (arith, turns-none E, turns-part E b before (omega arith), turns-part E c before (omega arith))))
      (λ u. rw u (omega (arith, turns-none E, turns-part E b after (omega arith), turns-part E c after (omega arith))))
