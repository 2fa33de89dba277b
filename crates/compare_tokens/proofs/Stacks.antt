-- Two stacks of tasks compared by their tokens: a task on top of both is skipped and counts its nodes, and a task that is replaced by what
-- it comes to leaves its tokens (spread_stack/proofs/Turns). Assumes nothing.
use Prim.Native.Nat.{ℕ, suc}
use mathlib.Core.Path.{◌≡◌, ◌∙◌, ap}
use mathlib.Core.List.{List, ◌∷◌, ◌++◌}
use Rattle.forest.specs.Expression.{Expression}
use Rattle.forest.specs.Spelling.{in_tokens}
use Rattle.spread_step.specs.declared.Said.{Said}
use Rattle.spread_step.specs.declared.Step.{Step}
use Rattle.spread_step.specs.Task.{task_spoken}
use Rattle.spread_step.specs.Step.{said_in}
use Rattle.spread_stack.specs.Stack.{tasks_spoken, add_tasks}
use Rattle.spread_stack.proofs.Turns.{Turned}
use Rattle.compare_tokens.specs.Tokens.{closing, differs, ahead}
use Rattle.compare_tokens.specs.Nodes.{task_nodes}
use Rattle.compare_tokens.specs.Stacks.{tasks_tokens}
use Rattle.compare_tokens.proofs.Skips.{differs-skip}
use Rattle.compare_tokens.proofs.Nodes.{openings-task}

module _ (E : ℕ → Expression) where
  -- the same task on both
  pub skip-task : (v : ℕ) (vs ws : List ℕ)
      → differs (tasks_tokens E (v ∷ vs)) (tasks_tokens E (v ∷ ws)) ≡ ahead (task_nodes E v) (differs (tasks_tokens E vs) (tasks_tokens E ws))
  unfolding tasks_spoken
  skip-task v vs ws =
      differs-skip (task_spoken in_tokens E v) (tasks_tokens E vs) (tasks_tokens E ws)
      ∙ ap (λ (k : ℕ). ahead k (differs (tasks_tokens E vs) (tasks_tokens E ws))) (openings-task E v)

  -- what a task on top comes to: nothing said yet, an opening, or a closing
  pub turned-nothing : {n H v : ℕ} {vs : List ℕ} {x : Step} → Turned in_tokens E n H v vs x → x.said ≡ Said.Nothing
      → tasks_tokens E (v ∷ vs) ≡ tasks_tokens E (add_tasks x vs)
  unfolding said_in
  turned-nothing {vs = vs} {x = x} t q = t.text ∙ ap (λ (s : Said). said_in in_tokens s ++ tasks_tokens E (add_tasks x vs)) q

  pub turned-opening : {n H v a : ℕ} {vs : List ℕ} {x : Step} → Turned in_tokens E n H v vs x → x.said ≡ Said.Opening a
      → tasks_tokens E (v ∷ vs) ≡ suc a ∷ tasks_tokens E (add_tasks x vs)
  unfolding said_in in_tokens
  turned-opening {vs = vs} {x = x} t q = t.text ∙ ap (λ (s : Said). said_in in_tokens s ++ tasks_tokens E (add_tasks x vs)) q

  pub turned-closing : {n H v : ℕ} {vs : List ℕ} {x : Step} → Turned in_tokens E n H v vs x → x.said ≡ Said.Closing
      → tasks_tokens E (v ∷ vs) ≡ closing ∷ tasks_tokens E (add_tasks x vs)
  unfolding said_in in_tokens
  turned-closing {vs = vs} {x = x} t q = t.text ∙ ap (λ (s : Said). said_in in_tokens s ++ tasks_tokens E (add_tasks x vs)) q
