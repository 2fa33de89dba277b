-- The invariant: the search goes on from where it began. The measure: each turn opens a rule or closes one. Assumes nothing.
use Prim.Native.Nat.{◌+◌, ◌-◌, ◌*◌}
use Rattle.reach_order.specs.Room.{rules_lent, ReadyFor}
use Rattle.reach_order.specs.Search.{Searching, Grown}
use Rattle.reach_order.proofs.run.Given as goal

abbrev pub invariant-loop-top : goal.invariant-loop-top
invariant-loop-top l = ReadyFor l.rules l.room × Searching (rules_lent l.rules) l.rules.n l.room l.top l.done × Grown l.rules.n l.initial.room l.room

abbrev pub decreases-loop-top : goal.decreases-loop-top
decreases-loop-top l = 2 * l.rules.n - (l.top + 2 * l.done)
