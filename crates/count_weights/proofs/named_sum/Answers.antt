-- The rules named have rows, so their sums can be read. Assumes nothing.
use native.Mathlib.Omega.{arith}
use Rattle.rule.specs.Names.{pair_one, pair_two, node_one, fill_one, fill_two, part_one, part_two, join_one, join_two}
use Rattle.count_passes.proofs.Named.{named_count}
use Rattle.count_weights.proofs.named_sum.Goals as goal

pub both-requires : goal.both-requires
both-requires c = (
  named_count _ (omega arith) c.in-Pair.is c.requires _ pair_one,
  named_count _ (omega arith) c.in-Pair.is c.requires _ pair_two,
)

pub count_at-requires : goal.count_at-requires
count_at-requires c = named_count _ (omega arith) c.in-Node.is c.requires _ node_one

pub both-requires-in-Fill : goal.both-requires-in-Fill
both-requires-in-Fill c = (
  named_count _ (omega arith) c.in-Fill.is c.requires _ fill_one,
  named_count _ (omega arith) c.in-Fill.is c.requires _ fill_two,
)

pub both-requires-in-Part : goal.both-requires-in-Part
both-requires-in-Part c = (
  named_count _ (omega arith) c.in-Part.is c.requires _ part_one,
  named_count _ (omega arith) c.in-Part.is c.requires _ part_two,
)

pub both-requires-in-Join : goal.both-requires-in-Join
both-requires-in-Join c = (
  named_count _ (omega arith) c.in-Join.is c.requires _ join_one,
  named_count _ (omega arith) c.in-Join.is c.requires _ join_two,
)
