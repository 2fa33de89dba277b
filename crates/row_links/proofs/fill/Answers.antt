-- The loop's invariant: the links are those of the first i cells. Assumes nothing.
use Prim.Native.Nat.{◌+◌}
use mathlib.Core.Path.{◌≡◌, sym}
use native.Mathlib.Omega.{arith}
use Rattle.forest.specs.Walk.{cells_in}
use Rattle.row_links.specs.Links.{Linkable, Linked, Relinked}
use Rattle.row_links.proofs.Linking.{linkable-kept, linked-none, relinked-none, relinked-both, relinked-more, relinked-put}
use Rattle.row_links.proofs.fill.Goals as goal

pub loop-i-init : goal.loop-i-init
loop-i-init c = let t = c.args.rows.now in
    let s = c.args.cursor.now in
    let k = c.args.k in
    let w = c.write_link in
    let l : Linkable t w.new.cursor k × Linked t w.new.cursor (cells_in w.new.cursor 0) =
    rw w.ensures (linked-none t s k c.requires) in
    (l.0, l.1, relinked-none t w.new.cursor k)

pub loop-i-preserved : goal.loop-i-preserved
loop-i-preserved c = let l = c.loop-i in
    let e = c.link_cell.ensures in
    let r = relinked-more c.args.rows.now l.cursor c.link_cell.new.cursor c.args.k (l.i + 1) l.invariant.0 (omega arith) e.1 in
    (linkable-kept r.within.same_length l.invariant.0, e.0, relinked-both l.invariant.2 r)

pub returns : goal.returns
returns c = let l = c.loop-i in
    let t = c.args.rows.now in
    let s = c.args.cursor.now in
    let e : l.i ≡ c.args.k = omega arith in
    let first : Relinked t c.args.k s c.write_link.new.cursor =
    rw c.write_link.ensures (relinked-put t s c.args.k 0 0 c.requires (omega arith)) in
    (rw (sym e) l.invariant.1, relinked-both first l.invariant.2)
