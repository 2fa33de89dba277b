-- The label is the rule's. Assumes nothing.
use Rattle.letter_arrival.proofs.land.Goals as goal

pub returns : goal.returns
returns c = let at = c.args.at in λ i. record { at = at; answer = c.label-answer.ensures i }
