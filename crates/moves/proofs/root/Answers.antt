-- The row of the rule is entered on no cells. Assumes nothing.
use mathlib.Core.Path.{refl}
use Rattle.forest.specs.Place.{row_of_node}
use Rattle.forest.specs.Walk.{cells_in}
use Rattle.model.specs.Model.{root}
use Rattle.move_parts.specs.Change.{entry_side, Able, AbleRoot}
use Rattle.move_parts.proofs.Outcomes.{decided-is, row-decided}
use Rattle.moves.proofs.root.Goals as goal

pub returns : goal.returns
unfolding root cells_in entry_side Able AbleRoot
returns c s d = let a = c.args in
    decided-is c.row.ensures refl (row-decided 0 row_of_node a.r (λ o z. z) (c.requires.0.represents a.r c.requires.1))
