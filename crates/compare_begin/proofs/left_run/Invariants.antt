-- The invariant: what is left of the run comes to what all of it does (`Running`). Assumes nothing.
use Rattle.compare_begin.proofs.Runs.{Running}
use Rattle.compare_begin.proofs.left_run.Given as goal

abbrev pub invariant-loop : goal.invariant-loop
invariant-loop l = Running l.n l.a l.b l.counter l.at l.initial.y l.y l.initial.work l.work
