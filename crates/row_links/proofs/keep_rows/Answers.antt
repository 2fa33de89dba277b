-- The links stay where the last row is among the cells that are kept, and else the first is written. Assumes nothing.
use Prim.Native.Nat.{ℕ}
use mathlib.Core.Path.{sym, subst}
use mathlib.Core.List.{List}
use native.Mathlib.Omega.{arith}
use Rattle.forest.specs.Walk.{cells_in}
use Rattle.row_links.specs.Links.{Linked, Relinked}
use Rattle.row_links.proofs.Linking.{row-most, linked-fewer, linked-keep, relinked-none}
use Rattle.row_links.proofs.keep_rows.Goals as goal

pub returns-then-read_link-keep : goal.returns-then-read_link-keep
returns-then-read_link-keep c = let t = c.args.rows.now in
    let s = c.args.cursor.now in
    (linked-fewer t s c.args.k c.args.keep c.requires.2 (omega (arith, c.read_link.ensures)) c.requires.1, relinked-none t s c.args.k)

pub write_link-requires : goal.write_link-requires
write_link-requires c = omega (arith, c.row_under-row.ensures, row-most c.args.cursor.now c.args.keep)

pub returns : goal.returns
returns c = let t = c.args.rows.now in
    let s = c.args.cursor.now in
    let r = c.row_under-row in
    subst (λ (s' : List ℕ). Linked t s' (cells_in s' c.args.keep) × Relinked t c.args.k s s') (sym c.write_link.ensures)
    (linked-keep t s c.args.k c.args.keep r.result c.requires.0 c.requires.2 c.requires.1 r.ensures)
