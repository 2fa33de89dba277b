-- Above the forest nowhere, else the child of the node. Assumes nothing.
use mathlib.Core.Path.{sym, ◌∙◌}
use Rattle.forest.specs.Letter.{Letter}
use Rattle.model.specs.Walk.{move}
use Rattle.side.specs.Side.{side_of}
use Rattle.move_parts.proofs.Outcomes.{took, took-none}
use Rattle.letter_moves.proofs.Stands.{held, at-rule, from-none, from-cells, stepped_kept, stepped-node, arriving}
use Rattle.letter_moves.proofs.to_child.Goals as goal

pub returns-then-at-eq0 : goal.returns-then-at-eq0
unfolding move
returns-then-at-eq0 c = let a = c.args in stepped_kept c.requires _ c.kept.ensures (sym (from-none a.cursor.now a.at.used _ c.if-at-eq0.true))

pub child-requires : goal.child-requires
child-requires c = let h = c.requires in (held h.placed, at-rule h.placed c.if-at-eq0.false)

pub returns-in_default : goal.returns-in_default
unfolding move
returns-in_default c = let a = c.args in
    stepped_kept c.requires _ c.kept-in_default.ensures (sym (from-cells a.cursor.now a.at.used _ c.if-at-eq0.false) ∙ took-none c.child.ensures c.in_default.is)

pub arrive_child-requires : goal.arrive_child-requires
unfolding move
arrive_child-requires c = let a = c.args in
    arriving c.requires (Letter.child (side_of a.side)) (sym (from-cells a.cursor.now a.at.used _ c.if-at-eq0.false)) (took c.child.ensures c.in-Node.is)

pub returns : goal.returns
unfolding move
returns c = let a = c.args in
    stepped-node c.requires _ (sym (from-cells a.cursor.now a.at.used _ c.if-at-eq0.false) ∙ (took c.child.ensures c.in-Node.is).0) c.arrive_child.ensures
