-- Above the forest nowhere, else the parent. Assumes nothing.
use mathlib.Core.Path.{sym, ◌∙◌}
use Rattle.forest.specs.Letter.{Letter}
use Rattle.model.specs.Walk.{move}
use Rattle.letter.specs.Letter.{move_of}
use Rattle.move_parts.proofs.Outcomes.{took, took-none}
use Rattle.letter_moves.proofs.Stands.{held, here-linkable, from-none, from-cells, stepped_kept, stepped-node, arriving}
use Rattle.letter_moves.proofs.to_parent.Goals as goal

pub returns-then-at-eq0 : goal.returns-then-at-eq0
unfolding move move_of
returns-then-at-eq0 c = let a = c.args in stepped_kept c.requires _ c.kept.ensures (sym (from-none a.cursor.now a.at.used _ c.if-at-eq0.true))

pub parent-requires : goal.parent-requires
parent-requires c = let h = c.requires in (held h.placed, here-linkable h, h.linked)

pub returns-in_default : goal.returns-in_default
unfolding move move_of
returns-in_default c = let a = c.args in
    stepped_kept c.requires _ c.kept-in_default.ensures (sym (from-cells a.cursor.now a.at.used _ c.if-at-eq0.false) ∙ took-none c.parent.ensures c.in_default.is)

pub arrive_parent-requires : goal.arrive_parent-requires
unfolding move move_of
arrive_parent-requires c = let a = c.args in
    arriving c.requires Letter.parent (sym (from-cells a.cursor.now a.at.used _ c.if-at-eq0.false)) (took c.parent.ensures c.in-Node.is)

pub returns : goal.returns
unfolding move move_of
returns c = let a = c.args in
    stepped-node c.requires _ (sym (from-cells a.cursor.now a.at.used _ c.if-at-eq0.false) ∙ (took c.parent.ensures c.in-Node.is).0) c.arrive_parent.ensures
