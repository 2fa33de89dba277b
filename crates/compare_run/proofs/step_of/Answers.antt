-- No task is tested for as the definition does; any other is decided. Assumes nothing.
use borrow.Author.Tests.{eq-eqb, ne_eqb}
use Rattle.compare_run.specs.Turn.{top_step}
use Rattle.compare_run.proofs.step_of.Goals as goal

pub returns-then-task-eq-NONE : goal.returns-then-task-eq-NONE
unfolding top_step
returns-then-task-eq-NONE c = rw (eq-eqb _ _ c.if-task-eq-NONE.true)

pub decide-requires : goal.decide-requires
decide-requires c = c.requires c.if-task-eq-NONE.false

pub returns : goal.returns
unfolding top_step
returns c = rw (ne_eqb _ _ c.if-task-eq-NONE.false) c.decide.ensures
