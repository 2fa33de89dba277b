-- Three tasks are put on the stack in turn. Assumes nothing.
use Rattle.spread_stack.proofs.Stacks.{pushed-all}
use Rattle.spread_stack.proofs.push_all.Goals as goal

pub returns : goal.returns
returns c = pushed-all _ c.push-one.ensures c.push-two.ensures c.push.ensures
