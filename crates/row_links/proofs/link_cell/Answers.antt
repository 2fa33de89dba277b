-- A cell that opens no row leaves the links, and one that does becomes their first. Assumes nothing.
use Prim.Native.Nat.{ℕ}
use mathlib.Core.Path.{sym, subst, ◌∙◌}
use mathlib.Core.List.{List}
use Rattle.forest.specs.Walk.{cells_in}
use Rattle.place_cells.proofs.Stack.{top-kind}
use Rattle.row_links.specs.Links.{Linked, Relinked}
use Rattle.row_links.proofs.Linking.{linked-past, linked-opens, relinked-none, relinked-opens}
use Rattle.row_links.proofs.link_cell.Goals as goal

pub returns-then-read-ne-ROW : goal.returns-then-read-ne-ROW
returns-then-read-ne-ROW c = let t = c.args.rows.now in
    let s = c.args.cursor.now in
    (linked-past t s c.args.i c.requires.1 (λ q. c.if-read-ne-ROW.true (top-kind c.read.ensures ∙ q)) c.requires.2, relinked-none t s c.args.i)

pub returns : goal.returns
returns c = let t = c.args.rows.now in
    let s = c.args.cursor.now in
    let i = c.args.i in
    let e = sym (top-kind c.read.ensures) ∙ c.if-read-ne-ROW.false in
    subst (λ (s' : List ℕ). Linked t s' (cells_in s' i) × Relinked t i s s') (sym c.open_row.ensures)
    (linked-opens t s i c.requires.0 c.requires.1 e c.requires.2, relinked-opens t s i c.requires.0)
