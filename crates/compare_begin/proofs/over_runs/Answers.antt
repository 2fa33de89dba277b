-- The invariant: the stack has what stands in the hole of the first j cells (`Over`). The measure: the cells left. Assumes nothing.
use Rattle.compare_begin.proofs.Holes.{over-ready, over-more}
use Rattle.compare_begin.proofs.over_runs.Goals as goal

pub over_run-y-requires : goal.over_run-y-requires
over_run-y-requires c = over-ready c.requires c.loop-j.invariant c.loop-j-test.true

pub loop-j-preserved : goal.loop-j-preserved
loop-j-preserved c = over-more c.requires c.loop-j.invariant c.loop-j-test.true c.over_run-y.ensures
