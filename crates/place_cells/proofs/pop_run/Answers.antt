-- The kind of the cell on top decides. Assumes nothing.
use mathlib.Core.Path.{◌≡◌, sym, ◌∙◌}
use native.Mathlib.Omega.{arith}
use borrow.Author.Tests.{eq-eqb, ne_eqb}
use Rattle.forest.specs.Place.{cell_run}
use Rattle.forest.specs.Walk.{cell_at}
use Rattle.model.specs.Model.{pop_run}
use Rattle.place_cells.proofs.Stack.{cells-none, cells-top, top-kind}
use Rattle.side.specs.Side.{side_of}
use Rattle.place_cells.proofs.pop_run.Goals as goal

pub returns-then-k-eq0 : goal.returns-then-k-eq0
unfolding pop_run
returns-then-k-eq0 c = (omega arith, rw (cells-none c.args.cursor.now c.args.k c.if-k-eq0.true))

pub returns-then-read-run_kind : goal.returns-then-read-run_kind
unfolding pop_run
returns-then-read-run_kind c = let e : (cell_at c.args.cursor.now c.args.k).0 ≡ cell_run (side_of c.args.side) = sym (top-kind c.read.ensures) ∙ c.if-read-run_kind.true ∙ c.run_kind.ensures in
    (omega arith, rw (cells-top c.args.cursor.now c.args.k (omega arith), eq-eqb _ _ e))

pub returns : goal.returns
unfolding pop_run
returns c = let e : (cell_at c.args.cursor.now c.args.k).0 ≡ cell_run (side_of c.args.side) → ⊥ = λ q. c.if-read-run_kind.false (top-kind c.read.ensures ∙ q ∙ sym c.run_kind.ensures) in
    (omega arith, rw (cells-top c.args.cursor.now c.args.k (omega arith), ne_eqb _ _ e))
