-- The invariant: the part that is left is the one asked for. What it is a part of is lower at each turn. Assumes nothing.
use mathlib.Core.Path.{◌≡◌}
use lib.ListN.{get_or}
use Rattle.forest.specs.Sizes.{height}
use Rattle.transfer_path.specs.Spot.{ahead}
use Rattle.transfer_climb.specs.Climb.{meaning, PartAt}
use Rattle.transfer_climb.proofs.part_ahead.Given as goal

abbrev pub invariant-loop-next : goal.invariant-loop-next
invariant-loop-next l = PartAt l.rows l.at l.j × (get_or (ahead (meaning l.rows l.at)) l.j 0 ≡ get_or (ahead (meaning l.rows l.rule)) l.part 0)

abbrev pub decreases-loop-next : goal.decreases-loop-next
decreases-loop-next l = height (meaning l.rows l.at)
