-- Each arm is the definition's; the rules of a pair have rows, so their tasks can be read. Assumes nothing.
use Rattle.rule.specs.Names.{pair_one, pair_two}
use Rattle.spread_step.proofs.Named.{at-rule, named-room}
use Rattle.spread_step.proofs.task_of.Goals as goal

pub whole-requires : goal.whole-requires
whole-requires c = named-room (at-rule c.in-Pair.is c.requires) _ pair_one

pub whole-requires-in-Pair : goal.whole-requires-in-Pair
whole-requires-in-Pair c = named-room (at-rule c.in-Pair.is c.requires) _ pair_two
