-- The tests are the definition's; a task of a rule has a row. Assumes nothing.
use borrow.Author.Tests.{eq-eqb, ne_eqb}
use native.Mathlib.Omega.{arith}
use Rattle.spread_step.specs.Task.{task_by}
use Rattle.compare_nodes.specs.Columns.{task_nodes_in}
use Rattle.compare_nodes.proofs.task_nodes.Goals as goal

pub returns-then-task-eq-NONE : goal.returns-then-task-eq-NONE
unfolding task_nodes_in task_by
returns-then-task-eq-NONE c = rw (eq-eqb _ _ c.if-task-eq-NONE.true) c.of.ensures

pub returns-then-task-eq-CLOSE : goal.returns-then-task-eq-CLOSE
unfolding task_nodes_in task_by
returns-then-task-eq-CLOSE c = rw (ne_eqb _ _ c.if-task-eq-NONE.false, eq-eqb _ _ c.if-task-eq-CLOSE.true) c.of-then-task-eq-CLOSE.ensures

pub count_at-requires : goal.count_at-requires
count_at-requires c = omega (arith, c.requires c.if-task-eq-NONE.false c.if-task-eq-CLOSE.false)

pub returns-then-task-eq-BEFORE : goal.returns-then-task-eq-BEFORE
unfolding task_nodes_in task_by
returns-then-task-eq-BEFORE c = rw (ne_eqb _ _ c.if-task-eq-NONE.false, ne_eqb _ _ c.if-task-eq-CLOSE.false, eq-eqb _ _ c.if-task-eq-BEFORE.true) c.count_at.ensures

pub count_at-requires-2 : goal.count_at-requires-2
count_at-requires-2 c = omega (arith, c.requires c.if-task-eq-NONE.false c.if-task-eq-CLOSE.false)

pub returns : goal.returns
unfolding task_nodes_in task_by
returns c = rw (ne_eqb _ _ c.if-task-eq-NONE.false, ne_eqb _ _ c.if-task-eq-CLOSE.false, ne_eqb _ _ c.if-task-eq-BEFORE.false) c.count_at-2.ensures
