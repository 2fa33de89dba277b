-- The mark is a word. Assumes nothing.
use Rattle.reach_order.specs.Room.{mark_in}
use Rattle.reach_order.proofs.mark.Goals as goal

pub returns : goal.returns
unfolding mark_in
returns c = c.read16.ensures
