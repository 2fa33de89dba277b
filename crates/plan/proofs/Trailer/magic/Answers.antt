-- Each arm is a case of the definition. Assumes nothing.
use Rattle.plan.specs.Check.{magic}
use Rattle.plan.proofs.Trailer.magic.Goals as goal

pub returns-in-Narrow : goal.returns-in-Narrow
unfolding magic
returns-in-Narrow c = rw c.in-Narrow.is

pub returns-in-Wide : goal.returns-in-Wide
unfolding magic
returns-in-Wide c = rw c.in-Wide.is
