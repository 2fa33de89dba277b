-- Each arm is the definition's; the rules named have rows, so their tasks can be read. Assumes nothing.
use Rattle.rule.specs.Names.{pair_one, pair_two, node_one, fill_one, fill_two, join_one, join_two}
use Rattle.spread_step.proofs.Named.{at-rule, named-room, named-few}
use native.Mathlib.Omega.{arith}
use Rattle.spread_step.proofs.rule_step.Goals as goal

pub whole-requires : goal.whole-requires
whole-requires c = named-room (at-rule c.in-Pair.is c.requires) _ pair_two

pub whole-requires-in-Pair : goal.whole-requires-in-Pair
whole-requires-in-Pair c = named-room (at-rule c.in-Pair.is c.requires) _ pair_one

pub whole-requires-in-Node : goal.whole-requires-in-Node
whole-requires-in-Node c = named-room (at-rule c.in-Node.is c.requires) _ node_one

pub task-requires : goal.task-requires
task-requires c = (named-few (at-rule c.in-Fill.is c.requires) _ fill_one, omega arith)

pub whole-requires-in-Fill : goal.whole-requires-in-Fill
whole-requires-in-Fill c = named-room (at-rule c.in-Fill.is c.requires) _ fill_two

pub task-requires-in-Fill : goal.task-requires-in-Fill
task-requires-in-Fill c = (named-few (at-rule c.in-Fill.is c.requires) _ fill_one, omega arith)

pub part_step-requires : goal.part_step-requires
part_step-requires c = at-rule c.in-Part.is c.requires

pub join_step-requires : goal.join_step-requires
join_step-requires c = let h = at-rule c.in-Join.is c.requires in
    (named-few h _ join_one, named-few h _ join_two)

pub returns-in-Join : goal.returns-in-Join
returns-in-Join c = rw c.in-Join.is (c.join_step.ensures _ _)
