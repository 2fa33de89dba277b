-- The loop's invariant: no rule below r reaches itself (`Seeking`); some rule does, so the loop doesn't come to its end. Assumes nothing.
use Rattle.reach_order.proofs.Queues.{seeking-more, seeking-found, seeking-ends}
use Rattle.reach_order.proofs.lowest.Goals as goal

pub returns-then-reaches_itself : goal.returns-then-reaches_itself
returns-then-reaches_itself c = seeking-found c.loop-r.invariant c.reaches_itself.ensures c.loop-r-test.true c.if-reaches_itself.true

pub loop-r-preserved : goal.loop-r-preserved
loop-r-preserved c = seeking-more c.loop-r.invariant c.reaches_itself.ensures c.if-reaches_itself.false

pub unreachable-requires : goal.unreachable-requires
unreachable-requires c = seeking-ends c.loop-r.invariant c.loop-r-test.false c.requires.1
