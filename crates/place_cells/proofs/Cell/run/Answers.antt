-- The kind is that of the side's runs. Assumes nothing.
use Prim.Native.Nat.{ℕ}
use mathlib.Core.Path.{ap}
use Rattle.place_cells.specs.Cells.{cell}
use Rattle.place_cells.proofs.Cell.run.Goals as goal

pub returns : goal.returns
returns c = let a = c.args in ap (λ (k : ℕ). cell (k, a.from, a.to, 0)) c.run_kind.ensures
