-- The loop's invariant: the cells below the row are those below the row that the first cells end in. Assumes nothing.
use mathlib.Core.Path.{◌≡◌}
use Rattle.forest.specs.Walk.{cells_in}
use Rattle.model.specs.Model.{below_row}
use Rattle.letter_reason.proofs.below_row.Given as goal

abbrev pub invariant-loop-below : goal.invariant-loop-below
invariant-loop-below l = below_row (cells_in l.cursor l.below) ≡ below_row (cells_in l.cursor l.t)
