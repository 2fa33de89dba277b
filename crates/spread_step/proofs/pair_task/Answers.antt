-- The tests are the definition's. Assumes nothing.
use borrow.Author.Tests.{eq-eqb, ne_eqb}
use Rattle.spread_step.proofs.pair_task.Goals as goal

pub returns-then-b-eq-NONE : goal.returns-then-b-eq-NONE
returns-then-b-eq-NONE c = rw (eq-eqb _ _ c.if-b-eq-NONE.true)

pub returns-then-c-eq-NONE : goal.returns-then-c-eq-NONE
returns-then-c-eq-NONE c = rw (ne_eqb _ _ c.if-b-eq-NONE.false, eq-eqb _ _ c.if-c-eq-NONE.true)

pub returns : goal.returns
returns c = rw (ne_eqb _ _ c.if-b-eq-NONE.false, ne_eqb _ _ c.if-c-eq-NONE.false)
