-- The root on a side of the walked rule. Assumes nothing.
use mathlib.Core.Path.{refl}
use native.Mathlib.Omega.{arith}
use Rattle.forest.specs.Letter.{Letter}
use Rattle.forest.specs.Place.{Side}
use Rattle.model.specs.Walk.{move}
use Rattle.side.specs.Side.{side_of}
use Rattle.move_parts.proofs.Outcomes.{took, took-none}
use Rattle.letter_moves.proofs.Stands.{rows-held, walked-in, stepped_kept, stepped-node, arriving}
use Rattle.letter_moves.proofs.to_root.Goals as goal

pub root-requires : goal.root-requires
root-requires c = let h = c.requires in (rows-held h.placed.rows, walked-in h.placed.rows)

pub returns-in_default : goal.returns-in_default
unfolding move
returns-in_default c = let a = c.args in
    stepped_kept c.requires _ c.kept.ensures (took-none (c.root.ensures a.cursor.now (side_of a.side)) c.in_default.is)

pub arrive_root-requires : goal.arrive_root-requires
unfolding move
arrive_root-requires c = let a = c.args in
    let h = took (c.root.ensures a.cursor.now (side_of a.side)) c.in-Node.is in
    (arriving c.requires (Letter.root (side_of a.side)) refl (h.0, h.1, omega (arith, h.2)), omega (arith, h.2))

pub returns : goal.returns
unfolding move
returns c = let a = c.args in
    stepped-node c.requires _ (took (c.root.ensures a.cursor.now (side_of a.side)) c.in-Node.is).0 c.arrive_root.ensures
