-- Each arm marks what its rule names. Assumes nothing.
use Rattle.rule.specs.Names.{node_one}
use Rattle.copy_marks.proofs.Marks.{nameable-at, name-fits, fill-pair, part_pair, join-pair, named_none, named-node, named-fill, named-part, named-join}
use Rattle.copy_marks.proofs.mark_named.Goals as goal

pub mark_two-requires : goal.mark_two-requires
mark_two-requires c = nameable-at c.in-Pair.is c.requires

pub mark_one-requires : goal.mark_one-requires
mark_one-requires c = name-fits (nameable-at c.in-Node.is c.requires) node_one

pub mark_two-requires-in-Fill : goal.mark_two-requires-in-Fill
mark_two-requires-in-Fill c = fill-pair (nameable-at c.in-Fill.is c.requires)

pub mark_two-requires-in-Part : goal.mark_two-requires-in-Part
mark_two-requires-in-Part c = part_pair _ (nameable-at c.in-Part.is c.requires)

pub mark_two-requires-in-Join : goal.mark_two-requires-in-Join
mark_two-requires-in-Join c = join-pair (nameable-at c.in-Join.is c.requires)

pub returns-in-Empty : goal.returns-in-Empty
returns-in-Empty c = rw c.in-Empty.is (named_none _ _)

pub returns-in-Pair : goal.returns-in-Pair
returns-in-Pair c = rw c.in-Pair.is c.mark_two.ensures

pub returns-in-Node : goal.returns-in-Node
returns-in-Node c = rw c.in-Node.is (named-node c.mark_one.ensures)

pub returns-in-Fill : goal.returns-in-Fill
returns-in-Fill c = rw c.in-Fill.is (named-fill c.mark_two-in-Fill.ensures)

pub returns-in-Part : goal.returns-in-Part
returns-in-Part c = rw c.in-Part.is (named-part c.mark_two-in-Part.ensures _)

pub returns-in-Join : goal.returns-in-Join
returns-in-Join c = rw c.in-Join.is (named-join c.mark_two-in-Join.ensures)
