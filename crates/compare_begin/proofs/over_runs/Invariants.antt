-- The invariant: the stack has what stands in the hole of the first j cells (`Over`). Assumes nothing.
use Rattle.compare_begin.proofs.Holes.{Over}
use Rattle.compare_begin.proofs.over_runs.Given as goal

abbrev pub invariant-loop-j : goal.invariant-loop-j
invariant-loop-j l = Over l.n l.i l.k l.j l.cursor l.initial.y l.y l.initial.work l.work
