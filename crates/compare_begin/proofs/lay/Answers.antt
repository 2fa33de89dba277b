-- One word, which is the only task. Assumes nothing.
use native.Mathlib.Omega.{arith}
use Rattle.compare_begin.proofs.Stacks.{laid_one}
use Rattle.compare_begin.proofs.lay.Goals as goal

pub returns : goal.returns
returns c = let h = c.requires in
    let v = c.task.ensures in
    laid_one _ _ h.0 (omega (arith, h.1)) (rw (← v) c.write16.ensures)
