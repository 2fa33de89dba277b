-- The same test. Assumes nothing.
use mathlib.Core.Path.{refl}
use Rattle.plan_list.specs.Listed.{wordless}
use Rattle.listing.proofs.wordless.Goals as goal

pub returns : goal.returns
unfolding wordless
returns c = refl
