-- The loop's invariant: the rules below i have been seen, and none is open (`Visiting`). Assumes nothing.
use Rattle.reach_order.proofs.Runs.{visiting-more, visiting-cycle, visiting-all}
use Rattle.reach_order.proofs.visit_all.Goals as goal

pub returns-in-None : goal.returns-in-None
returns-in-None c = visiting-cycle c.loop-i.invariant c.visit.ensures c.in-None.is

pub loop-i-preserved : goal.loop-i-preserved
loop-i-preserved c = visiting-more c.loop-i.invariant c.visit.ensures c.in-Some.is c.loop-i-test.true

pub returns : goal.returns
returns c = visiting-all c.loop-i.invariant c.loop-i-test.false
