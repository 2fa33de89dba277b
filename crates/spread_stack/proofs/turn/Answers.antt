-- The turn's parts are put together (`turn-made`). Assumes nothing.
use Rattle.spread_stack.proofs.Stacks.{turn-fits, turn-made}
use Rattle.spread_stack.proofs.turn.Goals as goal

pub decide-step-requires : goal.decide-step-requires
decide-step-requires c = c.requires.steps

pub say-next-requires : goal.say-next-requires
say-next-requires c = turn-fits c.requires c.decide-step.ensures

pub returns : goal.returns
returns c = turn-made c.decide-step.ensures c.say-next.ensures c.hold.ensures
