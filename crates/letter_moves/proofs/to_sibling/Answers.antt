-- Above the forest nowhere, else the sibling of the node. Assumes nothing.
use mathlib.Core.Path.{sym, ◌∙◌}
use Rattle.forest.specs.Letter.{Letter}
use Rattle.model.specs.Walk.{move}
use Rattle.side.specs.Side.{side_of}
use Rattle.move_parts.proofs.Outcomes.{took, took-none}
use Rattle.letter_moves.proofs.Stands.{held, from-none, from-cells, stepped_kept, stepped-node, arriving}
use Rattle.letter_moves.proofs.to_sibling.Goals as goal

pub returns-then-at-eq0 : goal.returns-then-at-eq0
unfolding move
returns-then-at-eq0 c = let a = c.args in stepped_kept c.requires _ c.kept.ensures (sym (from-none a.cursor.now a.at.used _ c.if-at-eq0.true))

pub sibling-requires : goal.sibling-requires
sibling-requires c = held c.requires.placed

pub returns-in_default : goal.returns-in_default
unfolding move
returns-in_default c = let a = c.args in
    stepped_kept c.requires _ c.kept-in_default.ensures (sym (from-cells a.cursor.now a.at.used _ c.if-at-eq0.false) ∙ took-none c.sibling.ensures c.in_default.is)

pub arrive_sibling-requires : goal.arrive_sibling-requires
unfolding move
arrive_sibling-requires c = let a = c.args in
    arriving c.requires (Letter.sibling (side_of a.side)) (sym (from-cells a.cursor.now a.at.used _ c.if-at-eq0.false)) (took c.sibling.ensures c.in-Node.is)

pub returns : goal.returns
unfolding move
returns c = let a = c.args in
    stepped-node c.requires _ (sym (from-cells a.cursor.now a.at.used _ c.if-at-eq0.false) ∙ (took c.sibling.ensures c.in-Node.is).0) c.arrive_sibling.ensures
