-- The rules named have rows, so their numbers can be read. Assumes nothing.
use Rattle.rule.specs.Names.{pair_one, pair_two, join_one, join_two}
use Rattle.count_passes.proofs.Named.{named-row}
use Rattle.tops_rows.proofs.tops_of.Goals as goal

pub both-requires : goal.both-requires
both-requires c = (named-row c.in-Pair.is c.requires _ pair_one, named-row c.in-Pair.is c.requires _ pair_two)

pub both-requires-in-Join : goal.both-requires-in-Join
both-requires-in-Join c = (named-row c.in-Join.is c.requires _ join_one, named-row c.in-Join.is c.requires _ join_two)
