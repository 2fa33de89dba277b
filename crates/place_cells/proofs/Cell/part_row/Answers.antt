-- Each arm of the match is a case of the definition. Assumes nothing.
use Rattle.side.specs.Side.{side_of}
use Rattle.forest.specs.Place.{row_of_part}
use Rattle.place_cells.proofs.Cell.part_row.Goals as goal

pub returns-in-Left : goal.returns-in-Left
unfolding side_of row_of_part
returns-in-Left c = rw c.in-Left.is

pub returns-in-Right : goal.returns-in-Right
unfolding side_of row_of_part
returns-in-Right c = rw c.in-Right.is
