-- The loop's invariant: what is left to climb from x is what was left from a. Both a jump and a step keep it, and come closer to the
-- end of the way. Assumes nothing.
use Prim.Native.Nat.{◌-◌}
use mathlib.Core.Path.{◌≡◌}
use Rattle.model.specs.Run.{along}
use Rattle.side.specs.Side.{side_of}
use Rattle.facts.specs.Facts.{In, facts_in}
use Rattle.facts.proofs.level.Given as goal

abbrev pub invariant-loop-side : goal.invariant-loop-side
invariant-loop-side l = In l.work l.x × (along (facts_in l.work) (side_of l.side) ((facts_in l.work).depth (side_of l.side) l.a - l.h) l.a ≡ along (facts_in l.work) (side_of l.side) ((facts_in l.work).depth (side_of l.side) l.x - l.h) l.x)

abbrev pub decreases-loop-side : goal.decreases-loop-side
decreases-loop-side l = (facts_in l.work).depth (side_of l.side) l.x
