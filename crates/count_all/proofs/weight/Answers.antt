-- A divider counts for nothing, any other label for one. Assumes nothing.
use Rattle.forest.specs.Outcome.{divider, entry}
use Rattle.std.proofs.Common.{eq-eqb, ne_eqb}
use Rattle.count_all.proofs.weight.Goals as goal

pub returns-then-label-eq-DIVIDER : goal.returns-then-label-eq-DIVIDER
unfolding entry
returns-then-label-eq-DIVIDER c = rw (eq-eqb _ divider c.if-label-eq-DIVIDER.true)

pub returns : goal.returns
unfolding entry
returns c = rw (ne_eqb _ divider c.if-label-eq-DIVIDER.false)
