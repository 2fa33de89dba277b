-- The depths' difference, and none where there is no such run. Assumes nothing.
use native.Mathlib.Omega.{arith}
use Rattle.transfer_path.specs.CellSpot.{steps_between}
use Rattle.side.specs.Side.{side_of}
use Rattle.transfer_climb.proofs.steps_between.Goals as goal

pub returns-then-deep-left : goal.returns-then-deep-left
unfolding steps_between side_of
returns-then-deep-left c = omega (arith, c.if-deep-left.true, c.depth_at-left.ensures, c.depth_at-deep.ensures)

pub returns : goal.returns
unfolding steps_between side_of
returns c = omega (arith, c.if-deep-left.false, c.depth_at-left.ensures, c.depth_at-deep.ensures)
