-- At a part the move inward leads to a node, whose change is written. Assumes nothing.
use Rattle.transfer_reach.proofs.Entering.{hole-held, hole-somewhere, hole-writable, hole-reached}
use Rattle.transfer_reach.proofs.reach_hole.Goals as goal

pub inward-requires : goal.inward-requires
inward-requires c = hole-held c.requires.hole

pub returns-in_default : goal.returns-in_default
returns-in_default c = absurd (hole-somewhere c.requires.hole c.inward.ensures c.in_default.is)

pub put_change-requires : goal.put_change-requires
put_change-requires c = hole-writable c.requires.hole c.inward.ensures c.in-Node.is

pub returns : goal.returns
returns c = λ start x q. hole-reached q c.inward.ensures c.in-Node.is c.put_change.ensures
