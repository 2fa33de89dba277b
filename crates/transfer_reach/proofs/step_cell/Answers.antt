-- The run on top grows by the step where it is to that side; else a run begins. Assumes nothing.
use native.Mathlib.Omega.{arith}
use mathlib.Core.Path.{◌≡◌, ap, sym, ◌∙◌}
use Prim.Native.Nat.{◌-◌}
use Rattle.std.specs.Prelude.{Some}
use Rattle.forest.specs.Place.{cell_run}
use Rattle.forest.specs.Walk.{cell_at, cells_in}
use Rattle.side.specs.Side.{side_of}
use Rattle.place_cells.specs.declared.Cell.{Cell as Words}
use Rattle.place_cells.specs.Cells.{cell}
use Rattle.place_cells.specs.Changes.{add}
use Rattle.place_cells.proofs.Stack.{top-kind, begins, grows-top}
use Rattle.place_cells.proofs.Writes.{high-most, put-top, put-none, put_as, put-more}
use Rattle.transfer_reach.proofs.step_cell.Goals as goal

pub returns-then-top-run_kind : goal.returns-then-top-run_kind
returns-then-top-run_kind c = let s = c.args.cursor.now in
    let k = c.args.k in
    let d = side_of c.args.side in
    let kind : (cell_at s k).0 ≡ cell_run d = sym (top-kind c.read-top.ensures) ∙ c.if-top-run_kind.true ∙ c.run_kind.ensures in
    let grown : c.grown.result ≡ cell ((cell_at s k).0, (cell_at s k).1, c.args.to, (cell_at s k).3) =
    c.grown.ensures ∙ ap (λ (y : Words). cell (y.kind, y.one, c.args.to, y.three)) c.read-top.ensures in
    let ok = c.grown.type_inv in
    put_as (ap (λ (y : Words). add (Some y) (cells_in s (k - 1))) grown ∙ grows-top s k d c.args.from c.args.to c.requires.0 kind)
    (rw c.write.ensures
    (put-top s k c.grown.result c.requires.0 (omega (arith, c.requires.1))
    (record { kind = omega (arith, ok); one = omega (arith, ok); two = omega (arith, ok); three = omega (arith, ok) })))

pub push-requires : goal.push-requires
push-requires c = omega (arith, high-most (Some c.run.result) c.args.k, c.requires.1)

pub returns : goal.returns
returns c = let s = c.args.cursor.now in
    let k = c.args.k in
    let d = side_of c.args.side in
    put_as
    (ap (λ (y : Words). add (Some y) (cells_in s k)) c.run.ensures
    ∙ begins s k d c.args.from c.args.to
    (λ more e. c.if-top-run_kind.false (top-kind c.read-top.ensures ∙ e ∙ sym c.run_kind.ensures)))
    (put-more (Some c.run.result) (put-none s k) c.push.ensures)
