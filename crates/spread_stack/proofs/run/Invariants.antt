-- The invariant: what is written and the text of the tasks make the whole text (`Running`). The measure: the tasks to come. Assumes nothing.
use Rattle.spread_stack.specs.Stack.{tasks_turns, tasks_held}
use Rattle.spread_stack.specs.Run.{meant, stack_at}
use Rattle.spread_stack.proofs.Runs.{Running}
use Rattle.spread_stack.proofs.run.Given as goal

abbrev pub invariant-loop-k : goal.invariant-loop-k
invariant-loop-k l = Running l.format l.n l.first l.initial.work l.initial.out l.work l.out l.task l.k l.at

abbrev pub decreases-loop-k : goal.decreases-loop-k
decreases-loop-k l = tasks_turns (meant l.initial.work l.n) (tasks_held l.task l.work (stack_at l.n) l.k)
