-- The task is read off the rule's row and the rows that it names. Assumes nothing.
use mathlib.Core.Path.{sym}
use Rattle.spread_step.proofs.Named.{at-rule}
use Rattle.spread_stack.proofs.Tasking.{task-put}
use native.Mathlib.Omega.{arith}
use Rattle.spread_stack.proofs.task_row.Goals as goal

pub task_of-task-requires : goal.task_of-task-requires
task_of-task-requires c = at-rule (sym c.rule_at.ensures) c.requires

pub returns : goal.returns
returns c = task-put _ c.rule_at.ensures c.task_of-task.ensures (omega arith) c.put16.ensures
