-- The invariant: the steps so far are taken (`Running`), to a rule with a row. Assumes nothing.
use Rattle.facts.specs.Facts.{In, facts_in}
use Rattle.transfer_climb.specs.Climb.{meaning, spot_at}
use Rattle.transfer_climb.proofs.Steps.{Running}
use Rattle.transfer_climb.proofs.right_run.Given as goal

abbrev pub invariant-loop : goal.invariant-loop
invariant-loop l = In l.rows l.rule
    × Running (facts_in l.rows) (meaning l.rows) l.steps l.a (spot_at l.initial.path l.fn.from) l.initial.path l.path l.counter l.rule l.at
