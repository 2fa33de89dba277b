-- The cells are written, and the label of the rule is read. Assumes nothing.
use Rattle.letter_arrival.proofs.Arrives.{settled-rule, arrived}
use Rattle.letter_arrival.proofs.arrive_child.Goals as goal

pub land-requires : goal.land-requires
land-requires c = settled-rule c.put_child-at.ensures c.requires.rule

pub returns : goal.returns
returns c = arrived c.put_child-at.ensures c.land.ensures
