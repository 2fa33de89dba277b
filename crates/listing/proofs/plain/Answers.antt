-- The same tests. Assumes nothing.
use mathlib.Core.Path.{refl}
use Rattle.plan_list.specs.Listed.{plain}
use Rattle.listing.proofs.plain.Goals as goal

pub returns : goal.returns
unfolding plain
returns c = refl
