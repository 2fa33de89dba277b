-- The rules named have rows, so their counts can be read. Assumes nothing.
use Rattle.rule.specs.Names.{pair_one, pair_two, node_one, fill_one, fill_two, part_one, join_one, join_two}
use Rattle.count_passes.proofs.Named.{named-row, named_count}
use native.Mathlib.Omega.{arith}
use mathlib.Core.Logic.{inl, inr}
use Rattle.compare_nodes.proofs.before_of.Goals as goal

pub both-requires : goal.both-requires
both-requires c = (
  named_count _ (omega arith) c.in-Pair.is c.requires _ pair_one,
  named_count _ (omega arith) c.in-Pair.is c.requires _ pair_two,
)

pub over-requires : goal.over-requires
over-requires c =
    elim c.in-Node.is [ inl (_, e) ↦ named-row e c.requires _ node_one | inr (_, _, e) ↦ named-row e c.requires _ part_one ]

pub filled-requires : goal.filled-requires
filled-requires c = (
  named-row c.in-Fill.is c.requires _ fill_one,
  named-row c.in-Fill.is c.requires _ fill_two,
)

pub both-requires-in-Join : goal.both-requires-in-Join
both-requires-in-Join c = (
  named_count _ (omega arith) c.in-Join.is c.requires _ join_one,
  named_count _ (omega arith) c.in-Join.is c.requires _ join_two,
)
