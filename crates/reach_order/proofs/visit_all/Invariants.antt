-- The loop's invariant: the rules below i have been seen, and none is open (`Visiting`). Assumes nothing.
use Rattle.reach_order.proofs.Runs.{Visiting}
use Rattle.reach_order.proofs.visit_all.Given as goal

abbrev pub invariant-loop-i : goal.invariant-loop-i
invariant-loop-i l = Visiting l.rules.format l.rules.bytes.now l.rules.first l.rules.n l.initial.room l.room l.done l.i
