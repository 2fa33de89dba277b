-- Each arm of the match is a case of `change_node`. Assumes nothing.
use Rattle.move_parts.specs.Change.{change_node, spine_side, entry_side}
use Rattle.letter_arrival.proofs.Arrives.{never-child}
use Rattle.side.specs.Side.{side_of}
use Rattle.transfer_reach.proofs.Entering.{stood-case, turn-asks, row-asks, spine-asks}
use Rattle.transfer_reach.proofs.put_change.Goals as goal

pub put_turn-requires : goal.put_turn-requires
unfolding side_of
put_turn-requires c = turn-asks c.requires c.in-Turn.is

pub put_row-requires : goal.put_row-requires
unfolding side_of
put_row-requires c = row-asks c.requires c.in-Row.is

pub put_tree-requires : goal.put_tree-requires
put_tree-requires c = spine-asks c.requires c.in-Spine.is

pub returns-in-Turn : goal.returns-in-Turn
unfolding side_of change_node spine_side
returns-in-Turn c = stood-case _ c.in-Turn.is c.put_turn.ensures

pub returns-in-Row : goal.returns-in-Row
unfolding side_of change_node entry_side
returns-in-Row c = stood-case _ c.in-Row.is c.put_row.ensures

pub returns-in-Spine : goal.returns-in-Spine
unfolding change_node
returns-in-Spine c = stood-case _ c.in-Spine.is c.put_tree.ensures

pub returns-in_default : goal.returns-in_default
returns-in_default c = absurd (never-child _ _ _ _ c.in_default.not-Turn c.in_default.not-Row c.in_default.not-Spine c.requires.able)
