-- What document 02, Note 7 asks of the neighbour cases at a node: "at every node the first in the sequence that holds gives the
-- finger's answer, nowhere where none holds"; and that no second one holds.
use Rattle.std.specs.Prelude.{◌≡◌}
use Rattle.std.specs.Prelude.{Option, option_map}
use Rattle.forest.specs.Place.{Side, Placed}
use Rattle.model.specs.Facts.{Facts}
use Rattle.model.specs.Run.{Node}
use Rattle.model.specs.Neighbour.{sibling_cases, first_that, how_many}
use Rattle.model.specs.Walk.{label}

-- a node as the placed forest has it: its label and its cells
abbrev pub placed_node : Facts → Node → Placed
placed_node F y = (label (F.rule y.0), y.1)

-- x is the node, finger what the finger answers to a letter n (right) or p (left) there
pub record FirstCase (F : Facts) (s : Side) (x : Node) (finger : Option Placed) : Type 0 where
  pub first : finger ≡ option_map (placed_node F) (first_that (sibling_cases F s x))
  pub one : how_many (sibling_cases F s x) ≡ 1
