-- Each arm is the law of its kind. Assumes nothing.
use Rattle.count_all.proofs.ByRule.{named-at, of-empty, of_pair, of_node, of-fill, of_part, of-join}
use Rattle.rule.specs.Names.{pair_one, pair_two, node_one, fill_one, fill_two, part_one, part_two, join_one, join_two}
use Rattle.count_all.proofs.counts_of.Goals as goal

pub counts_at-requires : goal.counts_at-requires
counts_at-requires c = named-at c.in-Pair.is c.requires _ pair_one

pub counts_at-requires-in-Pair : goal.counts_at-requires-in-Pair
counts_at-requires-in-Pair c = named-at c.in-Pair.is c.requires _ pair_two

pub counts_at-requires-in-Node : goal.counts_at-requires-in-Node
counts_at-requires-in-Node c = named-at c.in-Node.is c.requires _ node_one

pub counts_at-requires-in-Fill : goal.counts_at-requires-in-Fill
counts_at-requires-in-Fill c = named-at c.in-Fill.is c.requires _ fill_one

pub counts_at-requires-in-Fill-2 : goal.counts_at-requires-in-Fill-2
counts_at-requires-in-Fill-2 c = named-at c.in-Fill.is c.requires _ fill_two

pub counts_at-requires-in-Part : goal.counts_at-requires-in-Part
counts_at-requires-in-Part c = named-at c.in-Part.is c.requires _ part_one

pub counts_at-requires-in-Part-2 : goal.counts_at-requires-in-Part-2
counts_at-requires-in-Part-2 c = named-at c.in-Part.is c.requires _ part_two

pub counts_at-requires-in-Join : goal.counts_at-requires-in-Join
counts_at-requires-in-Join c = named-at c.in-Join.is c.requires _ join_one

pub counts_at-requires-in-Join-2 : goal.counts_at-requires-in-Join-2
counts_at-requires-in-Join-2 c = named-at c.in-Join.is c.requires _ join_two

pub returns-in-Empty : goal.returns-in-Empty
returns-in-Empty c = of-empty c.in-Empty.is c.none.ensures

pub returns-in-Pair : goal.returns-in-Pair
returns-in-Pair c = of_pair c.counts_at.ensures c.counts_at-in-Pair.ensures c.in-Pair.is c.beside.ensures

pub returns-in-Node : goal.returns-in-Node
returns-in-Node c = of_node c.in-Node.is c.counts_at-in-Node.ensures c.under.ensures

pub returns-in-Fill : goal.returns-in-Fill
returns-in-Fill c = of-fill c.counts_at-in-Fill.ensures c.counts_at-in-Fill-2.ensures c.in-Fill.is c.filled.ensures c.tree.ensures

pub returns-in-Part : goal.returns-in-Part
returns-in-Part c = of_part c.counts_at-in-Part.ensures c.counts_at-in-Part-2.ensures c.in-Part.is c.beside-in-Part.ensures c.under-in-Part.ensures

pub returns-in-Join : goal.returns-in-Join
returns-in-Join c = of-join c.counts_at-in-Join.ensures c.counts_at-in-Join-2.ensures c.in-Join.is c.filled-in-Join.ensures
