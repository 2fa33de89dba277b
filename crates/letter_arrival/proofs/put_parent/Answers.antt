-- Each arm of the match is a case of `change_node`. Assumes nothing.
use native.Mathlib.Omega.{arith}
use Rattle.side.specs.Side.{side_of}
use Rattle.move_parts.specs.Change.{spine_side, keep_of}
use Rattle.letter_arrival.proofs.Arrives.{keeping, keeps, turn-asks, turn-made, kept-made, never-parent}
use Rattle.letter_arrival.proofs.put_parent.Goals as goal

pub keep_rows-requires : goal.keep_rows-requires
unfolding keep_of
keep_rows-requires c = keeping c.requires c.in-Turn.is

pub put_turn-requires : goal.put_turn-requires
unfolding keep_of spine_side side_of
put_turn-requires c = let h = c.requires in let e = c.in-Turn.is in let q = keeps h e c.keep_rows.ensures in
    turn-asks h q e

pub keep_rows-requires-in-Kept : goal.keep_rows-requires-in-Kept
unfolding keep_of
keep_rows-requires-in-Kept c = let h = keeping c.requires c.in-Kept.is in (h.0, h.1, omega arith)

pub returns-in-Turn : goal.returns-in-Turn
unfolding keep_of spine_side side_of
returns-in-Turn c = let h = c.requires in let e = c.in-Turn.is in let q = keeps h e c.keep_rows.ensures in
    turn-made h q e c.put_turn.ensures

pub returns-in-Kept : goal.returns-in-Kept
unfolding keep_of
returns-in-Kept c = let h = c.requires in let e = c.in-Kept.is in let q = keeps h e c.keep_rows-in-Kept.ensures in
    kept-made h q e

pub returns-in_default : goal.returns-in_default
returns-in_default c = let a = c.args in absurd (never-parent a.work.now a.cursor.now a.change c.in_default.not-Kept c.in_default.not-Turn c.requires.able)
