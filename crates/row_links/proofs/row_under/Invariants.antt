-- The loop's invariant: the row is that which the first m of k cells end in, for some m from t on. Assumes nothing.
use Prim.Native.Nat.{ℕ, ◌≤◌}
use mathlib.Core.Path.{◌≡◌}
use Rattle.forest.specs.Walk.{cells_in}
use Rattle.row_links.specs.Links.{row_on}
use Rattle.row_links.proofs.row_under.Given as goal

abbrev pub invariant-loop-row : goal.invariant-loop-row
invariant-loop-row l = (m : ℕ) × (l.t ≤ m) × (m ≤ l.k) × (l.row ≡ row_on (cells_in l.cursor m))

abbrev pub decreases-loop-row : goal.decreases-loop-row
decreases-loop-row l = l.row
