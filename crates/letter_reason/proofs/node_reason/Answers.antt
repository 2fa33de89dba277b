-- Each arm of the match is a letter's move from the node; a, z and s move. Assumes nothing.
use native.Mathlib.Omega.{arith}
use mathlib.Core.Path.{refl, ◌∙◌}
use Rattle.model.specs.Walk.{move}
use Rattle.side.specs.Side.{side_of}
use Rattle.letter.specs.Letter.{move_of}
use Rattle.reasons.specs.Decided.{stop_reason}
use Rattle.letter_moves.proofs.Stands.{held, at-rule}
use Rattle.letter_reason.proofs.Leads.{always-moves, from-node}
use Rattle.letter_reason.proofs.node_reason.Goals as goal

pub child_reason-requires : goal.child_reason-requires
child_reason-requires c = (held c.requires.0, at-rule c.requires.0 (λ e. omega arith))

pub child_reason-requires-in-L : goal.child_reason-requires-in-L
child_reason-requires-in-L c = (held c.requires.0, at-rule c.requires.0 (λ e. omega arith))

pub sibling_reason-requires : goal.sibling_reason-requires
sibling_reason-requires c = held c.requires.0

pub sibling_reason-requires-in-P : goal.sibling_reason-requires-in-P
sibling_reason-requires-in-P c = held c.requires.0

pub parent_reason-requires : goal.parent_reason-requires
parent_reason-requires c = held c.requires.0

pub returns-in-F : goal.returns-in-F
unfolding move move_of side_of
returns-in-F c = rw c.in-F.is (c.child_reason.ensures ∙ from-node _ c.args.cursor.now c.args.at.used _ c.requires.1)

pub returns-in-L : goal.returns-in-L
unfolding move move_of side_of
returns-in-L c = rw c.in-L.is (c.child_reason-in-L.ensures ∙ from-node _ c.args.cursor.now c.args.at.used _ c.requires.1)

pub returns-in-N : goal.returns-in-N
unfolding move move_of side_of
returns-in-N c = rw c.in-N.is (c.sibling_reason.ensures ∙ from-node _ c.args.cursor.now c.args.at.used _ c.requires.1)

pub returns-in-P : goal.returns-in-P
unfolding move move_of side_of
returns-in-P c = rw c.in-P.is (c.sibling_reason-in-P.ensures ∙ from-node _ c.args.cursor.now c.args.at.used _ c.requires.1)

pub returns-in-U : goal.returns-in-U
unfolding move move_of side_of
returns-in-U c = rw c.in-U.is (c.parent_reason.ensures ∙ from-node _ c.args.cursor.now c.args.at.used _ c.requires.1)

pub returns-in-A : goal.returns-in-A
unfolding move_of stop_reason
returns-in-A c = rw c.in-A.is (always-moves _ _ refl)

pub returns-in-Z : goal.returns-in-Z
unfolding move_of stop_reason
returns-in-Z c = rw c.in-Z.is (always-moves _ _ refl)

pub returns-in-S : goal.returns-in-S
unfolding move_of stop_reason
returns-in-S c = rw c.in-S.is (always-moves _ _ refl)
