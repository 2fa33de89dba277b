-- The invariant: what was looked for is looked for still (`Looking`). The rule is lower at each turn. Assumes nothing.
use Rattle.forest.specs.Sizes.{height}
use Rattle.transfer_climb.specs.Climb.{meaning}
use Rattle.transfer_reach.proofs.Reaching.{Looking}
use Rattle.transfer_reach.proofs.seek.Given as goal

abbrev pub invariant-loop-side : goal.invariant-loop-side
invariant-loop-side l = Looking l.rows l.initial.cursor l.k l.a l.i l.cursor l.used l.at l.before

abbrev pub decreases-loop-side : goal.decreases-loop-side
decreases-loop-side l = height (meaning l.rows l.at)
