-- Each arm of the match is a clause of the definition. Assumes nothing.
use Rattle.side.specs.Side.{side_of}
use Rattle.model.specs.Stored.{kept_by}
use Rattle.place_check.proofs.kept_by.Goals as goal

pub returns-in-Left : goal.returns-in-Left
unfolding side_of kept_by
returns-in-Left c = rw c.in-Left.is

pub returns-in-Right : goal.returns-in-Right
unfolding side_of kept_by
returns-in-Right c = rw c.in-Right.is
