-- The branch is the definition's. Assumes nothing.
use borrow.Author.Tests.{eq-eqb, ne_eqb}
use Rattle.seal.specs.Seal.{format_for}
use Rattle.seal.proofs.format_for.Goals as goal

pub returns-then-length-eq-WIDE_LENGTH : goal.returns-then-length-eq-WIDE_LENGTH
unfolding format_for
returns-then-length-eq-WIDE_LENGTH c = rw (eq-eqb _ 10 c.if-length-eq-WIDE_LENGTH.true)

pub returns-else-length-eq-WIDE_LENGTH : goal.returns-else-length-eq-WIDE_LENGTH
unfolding format_for
returns-else-length-eq-WIDE_LENGTH c = rw (ne_eqb _ 10 c.if-length-eq-WIDE_LENGTH.false)
