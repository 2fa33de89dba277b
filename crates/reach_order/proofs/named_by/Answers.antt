-- Each arm of the match is a case of `names_of`. Assumes nothing.
use Rattle.reach_order.specs.Named.{names_of}
use Rattle.reach_order.proofs.named_by.Goals as goal

pub returns-in-Empty : goal.returns-in-Empty
unfolding names_of
returns-in-Empty c = rw c.in-Empty.is

pub returns-in-Pair : goal.returns-in-Pair
unfolding names_of
returns-in-Pair c = rw c.in-Pair.is

pub returns-in-Node : goal.returns-in-Node
unfolding names_of
returns-in-Node c = rw c.in-Node.is

pub returns-in-Fill : goal.returns-in-Fill
unfolding names_of
returns-in-Fill c = rw c.in-Fill.is

pub returns-in-Part : goal.returns-in-Part
unfolding names_of
returns-in-Part c = rw c.in-Part.is

pub returns-in-Join : goal.returns-in-Join
unfolding names_of
returns-in-Join c = rw c.in-Join.is
