-- The tests are the definition's. Assumes nothing.
use borrow.Author.Tests.{lt-leb, le-leb}
use Rattle.forest.specs.Compare.{within}
use Rattle.compare_run.proofs.answer.Goals as goal

pub returns-then-budget-count : goal.returns-then-budget-count
unfolding within
returns-then-budget-count c = rw (lt-leb _ _ c.if-budget-count.true)

pub returns-then-agree : goal.returns-then-agree
unfolding within
returns-then-agree c = rw (le-leb _ _ c.if-budget-count.false, c.if-agree.true)

pub returns : goal.returns
unfolding within
returns c = rw (le-leb _ _ c.if-budget-count.false, c.if-agree.false)
