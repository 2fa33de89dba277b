-- The top task of the step is kept in hand, or, where it has none, the one below is taken (`lift`). Assumes nothing.
use Rattle.spread_stack.proofs.Stacks.{held_high, held-mid, held_low, held_below}
use Rattle.spread_stack.proofs.hold.Goals as goal

pub returns-then-step-ne-NONE : goal.returns-then-step-ne-NONE
returns-then-step-ne-NONE c = held_high _ c.if-step-ne-NONE.true c.push-one.ensures c.push-two.ensures

pub returns-then-step-ne-NONE-2 : goal.returns-then-step-ne-NONE-2
returns-then-step-ne-NONE-2 c = held-mid _ c.if-step-ne-NONE.false c.if-step-ne-NONE-2.true c.push-under.ensures

pub returns-then-step-ne-NONE-3 : goal.returns-then-step-ne-NONE-3
returns-then-step-ne-NONE-3 c = held_low _ c.if-step-ne-NONE.false c.if-step-ne-NONE-2.false c.if-step-ne-NONE-3.true

pub returns : goal.returns
returns c = held_below _ c.if-step-ne-NONE.false c.if-step-ne-NONE-2.false c.if-step-ne-NONE-3.false c.lift.ensures
