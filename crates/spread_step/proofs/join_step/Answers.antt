-- Both ways are the definition's. Assumes nothing.
use borrow.Author.Tests.{eq-eqb, ne_eqb}
use Rattle.spread_step.specs.Step.{rule_step}
use Rattle.spread_step.proofs.join_step.Goals as goal

pub returns-then-p-eq-BEFORE : goal.returns-then-p-eq-BEFORE
unfolding rule_step
returns-then-p-eq-BEFORE c = λ f r.
    rw (eq-eqb _ _ c.if-p-eq-BEFORE.true, ← c.task.ensures, ← c.task-then-p-eq-BEFORE.ensures) c.nothing.ensures

pub returns : goal.returns
unfolding rule_step
returns c = λ f r.
    rw (ne_eqb _ _ c.if-p-eq-BEFORE.false, ← c.task-2.ensures, ← c.task-3.ensures) c.nothing-2.ensures
