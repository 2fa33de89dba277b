-- The loop's invariant: no rule below r reaches itself (`Seeking`). Assumes nothing.
use Rattle.reach_order.proofs.Queues.{Seeking}
use Rattle.reach_order.proofs.lowest.Given as goal

abbrev pub invariant-loop-r : goal.invariant-loop-r
invariant-loop-r l = Seeking l.rules.format l.rules.bytes.now l.rules.first l.rules.n l.initial.room l.room l.r
