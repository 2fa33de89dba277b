-- Each field is what a function answered. Assumes nothing.
use Prim.Native.Nat.{ℕ, ◌+◌, min}
use mathlib.Core.Path.{ap, ◌∙◌}
use Rattle.compare_run.proofs.skip.Goals as goal

pub task_nodes-nodes-requires : goal.task_nodes-nodes-requires
task_nodes-nodes-requires c = c.requires.0

pub returns : goal.returns
returns c = let a = c.args in
    λ i.
    record {
      one = c.saturating_sub.ensures i;
      two = c.saturating_sub-2.ensures i;
      agree = a.at.agree;
      count = (c.added.ensures ∙ ap (λ (m : ℕ). min (a.at.count + m) (a.budget + 1)) c.task_nodes-nodes.ensures) i;
    }
