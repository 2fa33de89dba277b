-- A word under the base and a word on top. Assumes nothing.
use native.Mathlib.Omega.{arith}
use mathlib.Core.Path.{ap, ap₂, ◌∙◌}
use mathlib.Core.List.{List}
use Prim.Native.Nat.{ℕ, ◌+◌, ◌-◌, ◌*◌}
use Rattle.words.specs.Put.{put}
use Rattle.count_passes.specs.Says.{before, after}
use Rattle.spread_step.specs.Task.{task_word}
use Rattle.compare_begin.proofs.Stacks.{grown-around}
use Rattle.compare_begin.proofs.around.Goals as goal

pub returns : goal.returns
returns c = let a = c.args in
    let h = c.requires in
    let v = c.task-2.ensures in
    let w = c.task.ensures in
    grown-around a.x (a.x.from - 2) (task_word a.r before) (task_word a.r after) (omega (arith, h.0.below)) h.0 (omega (arith, h.1)) (omega (arith, h.1))
    (c.write16-2.ensures
    ∙ ap₂ (λ (l : List ℕ) (x : ℕ). put 2 l (a.x.from + 2 * a.x.tasks) x)
    (c.write16.ensures ∙ ap (put 2 a.work.now (a.x.from - 2)) w)
    v)
