-- Each arm of the match is a case of the definition. Assumes nothing.
use Rattle.side.specs.Side.{side_of}
use Rattle.forest.specs.Place.{cell_run}
use Rattle.place_cells.proofs.Cell.run_kind.Goals as goal

pub returns-in-Left : goal.returns-in-Left
unfolding side_of cell_run
returns-in-Left c = rw c.in-Left.is

pub returns-in-Right : goal.returns-in-Right
unfolding side_of cell_run
returns-in-Right c = rw c.in-Right.is
