-- A word is written over the tasks, unless there is no task. Assumes nothing.
use Rattle.spread_stack.proofs.Stacks.{pushed_none, pushed-some}
use native.Mathlib.Omega.{arith}
use Rattle.spread_stack.proofs.push.Goals as goal

pub returns-then-task-eq-NONE : goal.returns-then-task-eq-NONE
returns-then-task-eq-NONE c = pushed_none _ _ _ _ c.if-task-eq-NONE.true

pub returns : goal.returns
returns c = pushed-some _ _ _ _ (omega arith) (omega arith) c.if-task-eq-NONE.false c.write16.ensures
