-- The stack begins with the rule's task, and is run. Assumes nothing.
use Rattle.spread_stack.proofs.Begins.{runnable, spread-all}
use Rattle.spread_stack.proofs.spread_rule.Goals as goal

pub run-requires : goal.run-requires
run-requires c = runnable c.requires c.whole-task.ensures c.push-k.ensures

pub returns : goal.returns
returns c = spread-all c.requires c.whole-task.ensures c.push-k.ensures c.run.ensures
