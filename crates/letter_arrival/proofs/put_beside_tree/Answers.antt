-- The turn, and then the tree on the cells that it leaves. Assumes nothing.
use native.Mathlib.Omega.{arith}
use Rattle.forest.specs.Walk.{cells_in}
use Rattle.model.specs.Model.{opened}
use Rattle.facts.specs.Facts.{facts_in, In}
use Rattle.side.specs.Side.{side_of}
use Rattle.move_parts.specs.Change.{turned_at}
use Rattle.move_parts.proofs.Kept.{found-rule, beside-kept}
use Rattle.move_parts.proofs.Turns.{turning-beside}
use Rattle.letter_arrival.proofs.Arrives.{stood-rule}
use Rattle.letter_arrival.proofs.Puts.{next-room, next-stood, opened-longer}
use Rattle.letter_arrival.proofs.put_beside_tree.Goals as goal

pub put_turn-at-requires : goal.put_turn-at-requires
put_turn-at-requires c = let a = c.args in let h = c.requires in let F = facts_in a.work.now in let room = h.1 in
    let x = turned_at F (side_of a.side) a.above (cells_in a.cursor.now a.k) in
    (h.0.0, h.0.1, omega (arith, opened-longer F x.0 x.1))

pub put_tree-requires : goal.put_tree-requires
put_tree-requires c = let a = c.args in let h = c.requires in let t = a.work.now in let F = facts_in t in let d = side_of a.side in let cs = cells_in a.cursor.now a.k in
    let p = c.put_turn-at.ensures in
    let x = turned_at F d a.above cs in
    let has = found-rule (In t) (turning-beside h.0) (beside-kept F (In t) h.0.0.held.rows d cs h.0.0.held.cells) in
    (h.0.0.held.rows, stood-rule {x = x} p t has, next-room (opened F) x p h.1)

pub returns : goal.returns
returns c = let a = c.args in let F = facts_in a.work.now in
    let x = turned_at F (side_of a.side) a.above (cells_in a.cursor.now a.k) in
    next-stood (opened F) x c.put_turn-at.ensures (let more = opened-longer F x.0 x.1 in omega arith) c.put_tree.ensures
