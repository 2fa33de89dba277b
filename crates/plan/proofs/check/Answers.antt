-- Check up to the largest number of rules. Assumes nothing.
use Rattle.plan.specs.Check.{checked}
use Rattle.plan.proofs.check.Goals as goal

pub returns : goal.returns
unfolding checked
returns c = c.check_up_to.ensures
