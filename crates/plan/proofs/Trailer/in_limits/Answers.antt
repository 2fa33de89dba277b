-- The test is the definition. Assumes nothing.
use mathlib.Core.Path.{refl}
use Rattle.plan.specs.Check.{in_limits}
use Rattle.plan.proofs.Trailer.in_limits.Goals as goal

pub returns : goal.returns
unfolding in_limits
returns c = refl
