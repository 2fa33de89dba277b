-- Both places opened: the first refusal is the answer. Assumes nothing.
use Rattle.refusal.proofs.Passed.{handed-on}
use Rattle.compare.proofs.Opening.{both-open, first-not, second-not}
use Rattle.compare.proofs.open_both.Goals as goal

pub returns-in_err-one : goal.returns-in_err-one
returns-in_err-one c = rw (handed-on c.from_residual.result c.from_residual.ensures.1) (first-not _ _ _ _ _ (c.open_node.ensures.refused _ c.in_err-one.was))

pub returns-in_err-two : goal.returns-in_err-two
returns-in_err-two c =
    rw (handed-on c.from_residual-in_err-two.result c.from_residual-in_err-two.ensures.1)
    (second-not _ _ _ _ _ (c.open_node.ensures.at _ _ c.in_ok-one.was) (c.open_node-2.ensures.refused _ c.in_err-two.was))

pub returns : goal.returns
returns c = both-open _ _ _ _ _ (c.open_node.ensures.at _ _ c.in_ok-one.was) (c.open_node-2.ensures.at _ _ c.in_ok-two.was)
