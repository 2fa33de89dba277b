-- The loop's invariant: the state is that of the first i cells. Assumes nothing.
use mathlib.Core.Path.{◌≡◌}
use Rattle.forest.specs.Walk.{cells_in}
use Rattle.model.specs.Stored.{state_after}
use Rattle.facts.specs.Facts.{facts_in}
use Rattle.place_check.specs.States.{state_of}
use Rattle.place_check.proofs.accepts.Given as goal

abbrev pub invariant-loop-i : goal.invariant-loop-i
invariant-loop-i l = state_of l.state ≡ state_after (facts_in l.work) l.r (cells_in l.cursor l.i)
