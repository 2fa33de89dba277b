-- Below the lowest row lies nothing; else the row's number is read off its opening. Assumes nothing.
use Prim.Native.Nat.{◌<◌}
use native.Mathlib.Omega.{arith}
use mathlib.Core.Path.{sym, ap, ◌∙◌}
use lib.Dec.{eqb}
use Rattle.forest.specs.Place.{row_of_part}
use Rattle.forest.specs.Sides.{other}
use Rattle.side.specs.Side.{side_of}
use Rattle.place_cells.proofs.Stack.{top_one}
use Rattle.move_parts.proofs.Outcomes.{end-lowest, end-number}
use Rattle.moves.proofs.ends_at_hole.Goals as goal

pub returns-then-j-le1 : goal.returns-then-j-le1
returns-then-j-le1 c = let a = c.args in sym (end-lowest a.cursor.now a.j (row_of_part (other (side_of a.side))) c.if-j-le1.true)

pub returns : goal.returns
returns c = let a = c.args in let high : 1 < a.j = omega arith in
    (λ i. eqb (top_one c.read.ensures i) ((c.part_row.ensures ∙ ap row_of_part c.other-back.ensures) i))
    ∙ sym (end-number a.cursor.now a.j (row_of_part (other (side_of a.side))) high)
