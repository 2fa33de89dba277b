-- One turn of spread's loop on the model: the task on top is replaced by what it comes to, and the text that is written or still to come
-- stays the same. Assumes nothing.
use Prim.Native.Nat.{ℕ, suc, ◌+◌, ◌*◌, ◌/◌, ◌%◌, ◌≤◌, ◌<◌}
use native.Mathlib.Omega.{arith}
use mathlib.Core.Path.{◌≡◌, sym, ap, ◌∙◌}
use mathlib.Core.Bool.{true, false}
use mathlib.Core.List.{List, [], ◌∷◌, ◌++◌, append_assoc, append-nil}
use lib.Dec.{eqb}
use lib.ListN.{length}
use borrow.Author.Tests.{ne_eqb, eqb-false}
use Rattle.rule.specs.declared.Rule.{Rule}
use Rattle.forest.specs.Expression.{Expression, rhs}
use Rattle.forest.specs.Spelling.{Spelling}
use Rattle.forest.specs.Sizes.{height}
use Rattle.rule.specs.Names.{Names}
use Rattle.count_passes.specs.Says.{spoken}
use Rattle.spread_step.specs.declared.Said.{Said}
use Rattle.spread_step.specs.declared.Step.{Step}
use Rattle.spread_step.specs.Task.{parts, close_task, no_task, task_by, task_spoken, turns_in, task_turns, task_height}
use Rattle.spread_step.specs.Step.{said_in, leaving, rule_step, step_of}
use Rattle.spread_stack.specs.Stack.{tasks_spoken, tasks_turns, add_tasks}
use Rattle.spread_stack.specs.Run.{Fit, Stacked, on}
use Rattle.spread_step.proofs.Tasks.{by-test, Stands}
use Rattle.spread_step.proofs.Steps.{step_spoken, step_turns, rule-text, rule-turns}
use Rattle.spread_stack.proofs.Fits.{adds-text, adds-turns, adds-stacked, rule_fits, Fits, fit_none}

-- a word that is a task: a closing byte, or a part of a rule
module _ {A : Type 0} (none closes : A) (part : ℕ → ℕ → A) (v : ℕ) (some : v ≡ no_task → ⊥) where
  pub is-close : eqb v close_task ≡ true → task_by none closes part v ≡ closes
  unfolding task_by
  is-close u = rw (ne_eqb v no_task some, u)

  pub is_a_part : eqb v close_task ≡ false → task_by none closes part v ≡ part (v / parts) (v % parts)
  unfolding task_by
  is_a_part u = rw (ne_eqb v no_task some, u)

module _ (E : ℕ → Expression) (v : ℕ) (some : v ≡ no_task → ⊥) (u : eqb v close_task ≡ false) where
  part-text : (φ : Spelling) → task_spoken φ E v ≡ spoken φ (E (v / parts)) (v % parts)
  unfolding task_spoken
  part-text φ = is_a_part [] φ.closes (λ r p. spoken φ (E r) p) v some u

  part-turns : task_turns E v ≡ turns_in (E (v / parts))
  unfolding task_turns
  part-turns = is_a_part 0 1 (λ r p. turns_in (E r)) v some u

  part-height : task_height E v ≡ height (E (v / parts))
  unfolding task_height
  part-height = is_a_part 0 0 (λ r p. height (E r)) v some u

-- what a turn leaves
pub record Turned (φ : Spelling) (E : ℕ → Expression) (n H v : ℕ) (vs : List ℕ) (x : Step) : Type 0 where
  pub text : tasks_spoken φ E (v ∷ vs) ≡ said_in φ x.said ++ tasks_spoken φ E (add_tasks x vs)
  pub turns : tasks_turns E (add_tasks x vs) < tasks_turns E (v ∷ vs)
  pub stacked : Stacked E n H (add_tasks x vs)

-- from the step's own text, turns and places
turned : (φ : Spelling) (E : ℕ → Expression) (n H v : ℕ) (vs : List ℕ) (x : Step) → task_spoken φ E v ≡ said_in φ x.said ++ step_spoken φ E x
    → step_turns E x < task_turns E v → Fits E n H (length vs) x → Stacked E n H vs → Turned φ E n H v vs x
unfolding tasks_spoken tasks_turns
turned φ E n H v vs x q l f s =
    record {
      text =
          ap (λ (t : List ℕ). t ++ tasks_spoken φ E vs) q
          ∙ append_assoc (said_in φ x.said) (step_spoken φ E x) (tasks_spoken φ E vs)
          ∙ ap (λ (t : List ℕ). said_in φ x.said ++ t) (sym (adds-text φ E x vs));
      turns = omega (arith, adds-turns E x vs);
      stacked = adds-stacked E n H x vs f.at_low f.at_mid f.at_high s;
    }

module _ (φ : Spelling) (E : ℕ → Expression) (n H : ℕ) (f : ℕ → ℕ) (X : ℕ → Rule) (S : (k : ℕ) → k < n → Stands E n (f k) (E k))
    (unfolds : (k : ℕ) → k < n → E k ≡ rhs k (X k) E) (names : (k : ℕ) → k < n → (j : ℕ) → Names (X k) j → j < n) where
  turned-close : (v : ℕ) (vs : List ℕ) → (v ≡ no_task → ⊥) → eqb v close_task ≡ true → Stacked E n H vs
      → Turned φ E n H v vs (leaving Said.Closing no_task no_task no_task)
  unfolding said_in step_spoken step_turns task_spoken task_turns
  turned-close v vs some u s =
      turned φ E n H v vs (leaving Said.Closing no_task no_task no_task)
      (is-close [] φ.closes (λ r p. spoken φ (E r) p) v some u ∙ sym (append-nil φ.closes))
      (let t : task_turns E v ≡ 1 = is-close 0 1 (λ r p. turns_in (E r)) v some u in omega arith)
      (record { at_low = fit_none E n H (length vs); at_mid = fit_none E n H (suc (length vs)); at_high = fit_none E n H (suc (suc (length vs))) })
      s

  turned-part : (v : ℕ) (vs : List ℕ) → (v ≡ no_task → ⊥) → eqb v close_task ≡ false → Fit E n H (length vs) v → Stacked E n H vs
      → Turned φ E n H v vs (rule_step f (v / parts) (v % parts) (X (v / parts)))
  turned-part v vs some u a s =
      let r : ℕ = v / parts in
      let p : ℕ = v % parts in
      let below : r < n = a.reads some (eqb-false v close_task u) in
      let low : length vs + 2 * task_height E v ≤ H = a.low some in
      let e : E r ≡ rhs r (X r) E = unfolds r below in
      let high : task_height E v ≡ height (rhs r (X r) E) = part-height E v some u ∙ ap height e in
      let long : task_turns E v ≡ turns_in (rhs r (X r) E) = part-turns E v some u ∙ ap turns_in e in
      turned φ E n H v vs (rule_step f r p (X r))
      (part-text E v some u φ
      ∙ ap (λ (d : Expression). spoken φ d p) e
      ∙ rule-text E n f S r p φ (X r) (names r below))
      (omega (arith, rule-turns E n f S r p (X r) (names r below)))
      (rule_fits E n f S r p H (length vs) (X r) (names r below) (omega arith))
      s

  pub turn : (v : ℕ) (vs : List ℕ) → Stacked E n H (v ∷ vs) → Turned φ E n H v vs (step_of f X v)
  unfolding step_of
  turn v vs (on some a s) = by-test (eqb v close_task) (λ u. rw u (turned-close v vs some u s)) (λ u. rw u (turned-part v vs some u a s))
