-- Each arm of the match is a case of `change_node`; a row is entered from the other side. Assumes nothing.
use native.Mathlib.Omega.{arith}
use mathlib.Core.Path.{sym}
use Rattle.side.specs.Side.{side_of}
use Rattle.move_parts.specs.Change.{letter_side, spine_side, entry_side, keep_of, Able, AbleSibling}
use Rattle.letter_arrival.proofs.Arrives.{arriving, keeping, keeps, turn-asks, turn-made, tree-asks, tree-made, spine-asks, spine-made, row_small, row_opens, row-asks, row_made, past-asks, beside-small, beside-opens, beside-asks, beside-made}
use Rattle.letter_arrival.proofs.put_sibling.Goals as goal

pub keep_rows-requires : goal.keep_rows-requires
unfolding keep_of
keep_rows-requires c = keeping c.requires c.in-Turn.is

pub put_turn-requires : goal.put_turn-requires
unfolding keep_of spine_side side_of
put_turn-requires c = let h = c.requires in let e = c.in-Turn.is in let q = keeps h e c.keep_rows.ensures in
    turn-asks h q e

pub keep_rows-requires-in-Tree : goal.keep_rows-requires-in-Tree
unfolding keep_of
keep_rows-requires-in-Tree c = keeping c.requires c.in-Tree.is

pub put_beside_tree-requires : goal.put_beside_tree-requires
unfolding keep_of letter_side
put_beside_tree-requires c = let h = c.requires in let e = c.in-Tree.is in let q = keeps h e c.keep_rows-in-Tree.ensures in
    tree-asks h q e

pub keep_rows-requires-in-Beside : goal.keep_rows-requires-in-Beside
unfolding keep_of
keep_rows-requires-in-Beside c = keeping c.requires c.in-Beside.is

pub put_turn-at-requires : goal.put_turn-at-requires
unfolding keep_of side_of
put_turn-at-requires c = let h = c.requires in let e = c.in-Beside.is in let q = keeps h e c.keep_rows-in-Beside.ensures in
    past-asks h q e

pub overflow_add-at : goal.overflow_add-at
unfolding keep_of side_of
overflow_add-at c = let h = c.requires in let e = c.in-Beside.is in let q = keeps h e c.keep_rows-in-Beside.ensures in
    omega (arith, beside-small h q e c.put_turn-at.ensures)

pub open_row-requires : goal.open_row-requires
unfolding keep_of side_of
open_row-requires c = let h = c.requires in let e = c.in-Beside.is in let q = keeps h e c.keep_rows-in-Beside.ensures in
    beside-opens h q e c.put_turn-at.ensures _ (omega arith) (omega arith)

pub put_row-requires : goal.put_row-requires
unfolding keep_of side_of entry_side
put_row-requires c = let h = c.requires in let e = c.in-Beside.is in let q = keeps h e c.keep_rows-in-Beside.ensures in
    rw (sym c.other-back.ensures) at (beside-asks h q e c.put_turn-at.ensures _ (omega arith) (omega arith) c.open_row.ensures)

pub keep_rows-requires-in-Row : goal.keep_rows-requires-in-Row
unfolding keep_of
keep_rows-requires-in-Row c = keeping c.requires c.in-Row.is

pub overflow_add-keep : goal.overflow_add-keep
unfolding keep_of
overflow_add-keep c = let h = c.requires in let e = c.in-Row.is in let q = keeps h e c.keep_rows-in-Row.ensures in
    omega (arith, row_small h q e)

pub open_row-requires-in-Row : goal.open_row-requires-in-Row
unfolding keep_of
open_row-requires-in-Row c = let h = c.requires in let e = c.in-Row.is in let q = keeps h e c.keep_rows-in-Row.ensures in
    row_opens h q e _ (omega arith) (omega arith)

pub put_row-requires-in-Row : goal.put_row-requires-in-Row
unfolding keep_of entry_side
put_row-requires-in-Row c = let h = c.requires in let e = c.in-Row.is in let q = keeps h e c.keep_rows-in-Row.ensures in
    rw (sym c.other-back.ensures) at (row-asks h q e _ (omega arith) (omega arith) c.open_row-in-Row.ensures)

pub keep_rows-requires-in-Spine : goal.keep_rows-requires-in-Spine
unfolding keep_of
keep_rows-requires-in-Spine c = keeping c.requires c.in-Spine.is

pub put_tree-requires : goal.put_tree-requires
unfolding keep_of
put_tree-requires c = let h = c.requires in let e = c.in-Spine.is in let q = keeps h e c.keep_rows-in-Spine.ensures in
    spine-asks h q e

pub returns-in-Turn : goal.returns-in-Turn
unfolding keep_of spine_side side_of
returns-in-Turn c = let h = c.requires in let e = c.in-Turn.is in let q = keeps h e c.keep_rows.ensures in
    turn-made h q e c.put_turn.ensures

pub returns-in-Tree : goal.returns-in-Tree
unfolding keep_of letter_side
returns-in-Tree c = let h = c.requires in let e = c.in-Tree.is in let q = keeps h e c.keep_rows-in-Tree.ensures in
    tree-made h q e c.put_beside_tree.ensures

pub returns-in-Beside : goal.returns-in-Beside
unfolding keep_of side_of entry_side
returns-in-Beside c = let h = c.requires in let e = c.in-Beside.is in let q = keeps h e c.keep_rows-in-Beside.ensures in
    beside-made h q e c.put_turn-at.ensures c.open_row.ensures (rw c.other-back.ensures at c.put_row.ensures)

pub returns-in-Row : goal.returns-in-Row
unfolding keep_of entry_side
returns-in-Row c = let h = c.requires in let e = c.in-Row.is in let q = keeps h e c.keep_rows-in-Row.ensures in
    row_made h q e c.open_row-in-Row.ensures (rw c.other-back.ensures at c.put_row-in-Row.ensures)

pub returns-in-Spine : goal.returns-in-Spine
unfolding keep_of
returns-in-Spine c = let h = c.requires in let e = c.in-Spine.is in let q = keeps h e c.keep_rows-in-Spine.ensures in
    spine-made h q e c.put_tree.ensures

pub returns-in_default : goal.returns-in_default
unfolding Able AbleSibling
returns-in_default c = absurd (arriving c.in_default.is c.requires).able
