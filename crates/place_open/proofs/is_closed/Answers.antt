-- Each arm of the match has one kind. Assumes nothing.
use Rattle.rule.specs.Rule.{encode, closed}
use Rattle.place_open.proofs.is_closed.Goals as goal

pub returns-in-Empty : goal.returns-in-Empty
unfolding encode closed
returns-in-Empty c = rw c.in-Empty.is

pub returns-in-Pair : goal.returns-in-Pair
unfolding encode closed
returns-in-Pair c = rw c.in-Pair.is

pub returns-in-Node : goal.returns-in-Node
unfolding encode closed
returns-in-Node c = rw c.in-Node.is

pub returns-in-Fill : goal.returns-in-Fill
unfolding encode closed
returns-in-Fill c = rw c.in-Fill.is

pub returns-in-Part : goal.returns-in-Part
unfolding encode closed
returns-in-Part c = rw c.in-Part.is

pub returns-in-Join : goal.returns-in-Join
unfolding encode closed
returns-in-Join c = rw c.in-Join.is
