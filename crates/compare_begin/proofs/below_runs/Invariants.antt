-- The loop's invariant: all cells above the first i are runs. Assumes nothing.
use Prim.Native.Nat.{ℕ, ◌≤◌, ◌<◌}
use mathlib.Core.Path.{◌≡◌}
use mathlib.Core.Bool.{true}
use Rattle.forest.specs.Walk.{cell_at}
use Rattle.compare_begin.specs.Stack.{is_run}
use Rattle.compare_begin.proofs.below_runs.Given as goal

abbrev pub invariant-loop-i : goal.invariant-loop-i
invariant-loop-i l = (j : ℕ) → l.i < j → j ≤ l.k → is_run (cell_at l.cursor j).0 ≡ true
