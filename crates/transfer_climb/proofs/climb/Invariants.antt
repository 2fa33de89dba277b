-- The invariant: the first i cells are read (`Climbing`). Assumes nothing.
use Rattle.facts.specs.Facts.{facts_in}
use Rattle.transfer_climb.specs.Climb.{meaning}
use Rattle.transfer_climb.proofs.Cells.{Climbing}
use Rattle.transfer_climb.proofs.climb.Given as goal

abbrev pub invariant-loop-i : goal.invariant-loop-i
invariant-loop-i l = Climbing (facts_in l.rows) (meaning l.rows) l.cursor l.k l.initial.path l.path l.i l.at
