-- The cells without the top are one fewer, if there are any. Assumes nothing.
use mathlib.Core.Path.{sym, ap, ◌∙◌}
use native.Mathlib.Omega.{arith}
use Rattle.forest.specs.Walk.{cells_in}
use Rattle.place_cells.proofs.Stack.{tail-cells}
use Rattle.place_cells.proofs.tail.Goals as goal

pub returns : goal.returns
returns c = let k = c.args.k in
    let less = c.saturating_sub.ensures in
    (omega (arith, less), λ s. ap (cells_in s) less ∙ sym (tail-cells s k))
