-- The loop's invariant: the first i places hold their numbers. Assumes nothing.
use Prim.Native.Nat.{◌≤◌}
use mathlib.Core.Path.{◌≡◌}
use lib.ListN.{length}
use Rattle.work_rows.specs.Order.{order_at, order_end}
use Rattle.work_rows.proofs.Order.{Numbered}
use Rattle.work_rows.proofs.order_by_number.Given as goal

abbrev pub invariant-loop-i : goal.invariant-loop-i
invariant-loop-i l = (l.at ≡ order_at l.n) × (order_end l.n ≤ length l.initial.work) × Numbered l.n l.i l.initial.work l.work
