-- The walk is lent enough for any plan, and begins above the forest (`strolled`). Assumes nothing.
use Rattle.stroll_output.proofs.Strolls.{zeros-lent, strolled}
use Rattle.stroll_output.proofs.walk_above.Goals as goal

pub returns : goal.returns
returns c = let start = c in
    strolled start.requires.0 (zeros-lent start.requires.1) c.walk.ensures
