-- No step, no run; else the run to the last rule. Assumes nothing.
use Prim.Native.Nat.{ℕ}
use mathlib.Core.Path.{ap, sym, ◌∙◌}
use borrow.Author.Tests.{eq-eqb, ne_eqb}
use Rattle.std.specs.Prelude.{Some}
use Rattle.forest.specs.Place.{cell_run}
use Rattle.side.specs.Side.{side_of}
use Rattle.place_cells.specs.Cells.{cell, run_cell}
use Rattle.move_parts.proofs.run_from.Goals as goal

pub returns-then-depth_at-eq0 : goal.returns-then-depth_at-eq0
unfolding run_cell
returns-then-depth_at-eq0 c = rw (eq-eqb _ _ (sym c.depth_at.ensures ∙ c.if-depth_at-eq0.true))

pub returns : goal.returns
unfolding run_cell
returns c = let a = c.args in
    ap Some c.run.ensures ∙ rw (← c.depth_at.ensures, ne_eqb _ _ c.if-depth_at-eq0.false) (ap (λ (v : ℕ). Some (cell (cell_run (side_of a.side), a.a, v, 0))) c.last_at.ensures)
