-- The invariant: the part that is left is the one asked for. What it is a part of is lower at each turn. Assumes nothing.
use mathlib.Core.Path.{◌∙◌}
use Rattle.transfer_climb.proofs.part_ahead.Goals as goal

pub loop-next-smaller : goal.loop-next-smaller
loop-next-smaller c = (c.go_down.ensures.on _ _ c.in-On.is).2

pub loop-next-preserved : goal.loop-next-preserved
loop-next-preserved c = let on = c.go_down.ensures.on _ _ c.in-On.is in
    (on.0, on.1 ∙ c.loop-next.invariant.1)
