-- Each arm of the match is a case of `change_node`. Assumes nothing.
use native.Mathlib.Omega.{arith}
use Rattle.side.specs.Side.{side_of}
use Rattle.move_parts.specs.Change.{spine_side, entry_side, keep_of}
use Rattle.letter_arrival.proofs.Arrives.{keeping, keeps, turn-asks, turn-made, row_small, row_opens, row-asks, row_made, spine-asks, spine-made, never-child}
use Rattle.letter_arrival.proofs.put_child.Goals as goal

pub keep_rows-requires : goal.keep_rows-requires
unfolding keep_of
keep_rows-requires c = keeping c.requires c.in-Turn.is

pub put_turn-requires : goal.put_turn-requires
unfolding keep_of spine_side side_of
put_turn-requires c = let h = c.requires in let e = c.in-Turn.is in let q = keeps h e c.keep_rows.ensures in
    turn-asks h q e

pub keep_rows-requires-in-Row : goal.keep_rows-requires-in-Row
unfolding keep_of
keep_rows-requires-in-Row c = keeping c.requires c.in-Row.is

pub overflow_add-keep : goal.overflow_add-keep
unfolding keep_of
overflow_add-keep c = let h = c.requires in let e = c.in-Row.is in let q = keeps h e c.keep_rows-in-Row.ensures in
    omega (arith, row_small h q e)

pub open_row-requires : goal.open_row-requires
unfolding keep_of
open_row-requires c = let h = c.requires in let e = c.in-Row.is in let q = keeps h e c.keep_rows-in-Row.ensures in
    row_opens h q e _ (omega arith) (omega arith)

pub put_row-requires : goal.put_row-requires
unfolding keep_of entry_side
put_row-requires c = let h = c.requires in let e = c.in-Row.is in let q = keeps h e c.keep_rows-in-Row.ensures in
    row-asks h q e _ (omega arith) (omega arith) c.open_row.ensures

pub keep_rows-requires-in-Spine : goal.keep_rows-requires-in-Spine
unfolding keep_of
keep_rows-requires-in-Spine c = keeping c.requires c.in-Spine.is

pub put_tree-requires : goal.put_tree-requires
unfolding keep_of
put_tree-requires c = let h = c.requires in let e = c.in-Spine.is in let q = keeps h e c.keep_rows-in-Spine.ensures in
    spine-asks h q e

pub returns-in-Turn : goal.returns-in-Turn
unfolding keep_of spine_side side_of
returns-in-Turn c = let h = c.requires in let e = c.in-Turn.is in let q = keeps h e c.keep_rows.ensures in
    turn-made h q e c.put_turn.ensures

pub returns-in-Row : goal.returns-in-Row
unfolding keep_of entry_side
returns-in-Row c = let h = c.requires in let e = c.in-Row.is in let q = keeps h e c.keep_rows-in-Row.ensures in
    row_made h q e c.open_row.ensures c.put_row.ensures

pub returns-in-Spine : goal.returns-in-Spine
unfolding keep_of
returns-in-Spine c = let h = c.requires in let e = c.in-Spine.is in let q = keeps h e c.keep_rows-in-Spine.ensures in
    spine-made h q e c.put_tree.ensures

pub returns-in_default : goal.returns-in_default
returns-in_default c = let a = c.args in absurd (never-child a.work.now a.cursor.now (side_of a.side) a.change c.in_default.not-Turn c.in_default.not-Row c.in_default.not-Spine c.requires.able)
