-- The rules named have rows, and names that fit a word. Assumes nothing.
use native.Mathlib.Omega.{arith}
use mathlib.Core.Logic.{inl, inr}
use Rattle.rule.specs.Names.{pair_one, pair_two, node_one, fill_one, fill_two, part_one, part_two, join_one, join_two}
use Rattle.copy_rows.proofs.Rules.{named-fits, named-few}
use Rattle.copy_rows.proofs.whole_of.Goals as goal

pub pair-requires : goal.pair-requires
pair-requires c = (named-few c.in-Pair.is c.requires _ pair_one, named-few c.in-Pair.is c.requires _ pair_two)

pub node-requires : goal.node-requires
node-requires c = (named-few c.in-Node.is c.requires _ node_one, omega arith)

pub part-requires : goal.part-requires
part-requires c = (named-few c.in-Part.is c.requires _ part_one, named-few c.in-Part.is c.requires _ part_two)

pub around-requires : goal.around-requires
around-requires c =
    elim c.in-Fill.is [
      | inl e ↦ (named-fits e c.requires _ fill_one, named-fits e c.requires _ fill_two, omega arith)
      | inr e ↦ (named-fits e c.requires _ join_one, named-fits e c.requires _ join_two, omega arith)
    ]
