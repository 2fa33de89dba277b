-- The rules named have rows, so their counts can be read. Assumes nothing.
use Rattle.rule.specs.Names.{pair_one, pair_two, node_one, fill_one, fill_two, part_two, join_one, join_two}
use Rattle.count_passes.proofs.Named.{named-row, named_count}
use native.Mathlib.Omega.{arith}
use Rattle.compare_nodes.proofs.after_of.Goals as goal

pub both-requires : goal.both-requires
both-requires c = (
  named_count _ (omega arith) c.in-Pair.is c.requires _ pair_one,
  named_count _ (omega arith) c.in-Pair.is c.requires _ pair_two,
)

pub over-requires : goal.over-requires
over-requires c = named-row c.in-Node.is c.requires _ node_one

pub filled-requires : goal.filled-requires
filled-requires c = (
  named-row c.in-Fill.is c.requires _ fill_one,
  named-row c.in-Fill.is c.requires _ fill_two,
)

pub count_at-requires : goal.count_at-requires
count_at-requires c = named_count _ (omega arith) c.in-Part.is c.requires _ part_two

pub both-requires-in-Join : goal.both-requires-in-Join
both-requires-in-Join c = (
  named_count _ (omega arith) c.in-Join.is c.requires _ join_two,
  named_count _ (omega arith) c.in-Join.is c.requires _ join_one,
)
