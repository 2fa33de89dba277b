-- The invariant: the answer is that of what has been compared and what is left (`Going`). The measure: the turns to come. Assumes nothing.
use Rattle.compare_run.proofs.Runs.{Going, turns_left}
use Rattle.compare_run.proofs.run.Given as goal

abbrev pub invariant-loop-work : goal.invariant-loop-work
invariant-loop-work l = Going l.n l.first l.one l.second l.two l.budget l.initial.work l.work l.at

abbrev pub decreases-loop-work : goal.decreases-loop-work
decreases-loop-work l = turns_left l.n l.first l.second l.work l.at
