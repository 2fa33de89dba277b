-- The loop's invariant: what has been seen is reached, and what the rules taken name has been seen (`Following`). Assumes nothing.
use Prim.Native.Nat.{◌*◌, ◌-◌}
use Rattle.words.specs.Within.{Within}
use Rattle.reach_order.specs.Room.{rules_lent, ReadyFor}
use Rattle.reach_order.specs.Queue.{Following}
use Rattle.reach_order.proofs.follow.Given as goal

abbrev pub invariant-loop-taken : goal.invariant-loop-taken
invariant-loop-taken l = ReadyFor l.rules l.room × Following (rules_lent l.rules) l.rules.n l.i l.room l.m l.taken × Within 0 (4 * l.rules.n) l.initial.room l.room

abbrev pub decreases-loop-taken : goal.decreases-loop-taken
decreases-loop-taken l = l.rules.n - l.taken
