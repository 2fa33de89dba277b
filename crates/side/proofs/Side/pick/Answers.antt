-- Each side has its one. Assumes nothing.
use Rattle.forest.specs.Sides.{pick}
use Rattle.side.specs.Side.{side_of}
use Rattle.side.proofs.Side.pick.Goals as goal

pub returns-in-Left : goal.returns-in-Left
unfolding side_of pick
returns-in-Left c = rw c.in-Left.is

pub returns-in-Right : goal.returns-in-Right
unfolding side_of pick
returns-in-Right c = rw c.in-Right.is
