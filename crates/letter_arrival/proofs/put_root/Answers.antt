-- A row is what it has. Assumes nothing.
use native.Mathlib.Omega.{arith}
use Rattle.side.specs.Side.{side_of}
use Rattle.move_parts.specs.Change.{entry_side, keep_of}
use Rattle.letter_arrival.proofs.Arrives.{keeping_none, keeps-none, row_small, row_opens, row-asks, row_made, never-root}
use Rattle.letter_arrival.proofs.put_root.Goals as goal

pub fill-requires : goal.fill-requires
fill-requires c = keeping_none c.requires.0 c.in-Row.is

pub overflow_add-keep : goal.overflow_add-keep
unfolding keep_of
overflow_add-keep c = let h = c.requires.0 in let e = c.in-Row.is in let q = keeps-none h e c.requires.1 c.fill.ensures in
    omega (arith, row_small h q e)

pub open_row-requires : goal.open_row-requires
unfolding keep_of
open_row-requires c = let h = c.requires.0 in let e = c.in-Row.is in let q = keeps-none h e c.requires.1 c.fill.ensures in
    row_opens h q e _ (omega arith) (omega arith)

pub put_row-requires : goal.put_row-requires
unfolding keep_of entry_side
put_row-requires c = let h = c.requires.0 in let e = c.in-Row.is in let q = keeps-none h e c.requires.1 c.fill.ensures in
    row-asks h q e _ (omega arith) (omega arith) c.open_row.ensures

pub returns-in-Row : goal.returns-in-Row
unfolding keep_of entry_side
returns-in-Row c = let h = c.requires.0 in let e = c.in-Row.is in let q = keeps-none h e c.requires.1 c.fill.ensures in
    row_made h q e c.open_row.ensures c.put_row.ensures

pub returns-in_default : goal.returns-in_default
returns-in_default c = let a = c.args in absurd (never-root a.work.now a.cursor.now (side_of a.side) a.change c.in_default.not-Row c.requires.0.able)
