-- Each arm is the definition's. Assumes nothing.
use Rattle.rule.specs.Names.{pair_one, pair_two, node_one, fill_one, fill_two, part_one, part_two, join_one, join_two}
use Rattle.copy_marks.proofs.Marks.{nameable-at, name-fits}
use Rattle.copy_marks.proofs.renumbered.Goals as goal

pub number_of-b-requires : goal.number_of-b-requires
number_of-b-requires c = (name-fits (nameable-at c.in-Pair.is c.requires) pair_one).0

pub number_of-c-requires : goal.number_of-c-requires
number_of-c-requires c = (name-fits (nameable-at c.in-Pair.is c.requires) pair_two).0

pub number_of-c-requires-in-Node : goal.number_of-c-requires-in-Node
number_of-c-requires-in-Node c = (name-fits (nameable-at c.in-Node.is c.requires) node_one).0

pub number_of-b-requires-in-Fill : goal.number_of-b-requires-in-Fill
number_of-b-requires-in-Fill c = (name-fits (nameable-at c.in-Fill.is c.requires) fill_one).0

pub number_of-c-requires-in-Fill : goal.number_of-c-requires-in-Fill
number_of-c-requires-in-Fill c = (name-fits (nameable-at c.in-Fill.is c.requires) fill_two).0

pub number_of-b-requires-in-Part : goal.number_of-b-requires-in-Part
number_of-b-requires-in-Part c = (name-fits (nameable-at c.in-Part.is c.requires) part_one).0

pub number_of-c-requires-in-Part : goal.number_of-c-requires-in-Part
number_of-c-requires-in-Part c = (name-fits (nameable-at c.in-Part.is c.requires) part_two).0

pub number_of-b-requires-in-Join : goal.number_of-b-requires-in-Join
number_of-b-requires-in-Join c = (name-fits (nameable-at c.in-Join.is c.requires) join_one).0

pub number_of-c-requires-in-Join : goal.number_of-c-requires-in-Join
number_of-c-requires-in-Join c = (name-fits (nameable-at c.in-Join.is c.requires) join_two).0
