-- The invariant: the rows at the first i places have their tasks (`Passing`). Assumes nothing.
use Rattle.spread_stack.proofs.Tasking.{Passing}
use Rattle.spread_stack.proofs.task_rows.Given as goal

abbrev pub invariant-loop-i : goal.invariant-loop-i
invariant-loop-i l = Passing l.n l.i l.initial.work l.work
