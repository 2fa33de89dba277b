-- The invariant: the first j parts are gone through (`Threading`). Each turn is a level more, so no more are asked than are told. Assumes nothing.
use Rattle.transfer_climb.specs.Climb.{meaning, spot_at}
use Rattle.transfer_climb.proofs.Steps.{Threading}
use Rattle.transfer_climb.proofs.through.Given as goal

abbrev pub invariant-loop-j : goal.invariant-loop-j
invariant-loop-j l = Threading (meaning l.rows l.rule) (spot_at l.initial.path l.fn.from) l.initial.path l.path l.parts l.j l.at
