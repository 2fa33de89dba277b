-- The loop's invariant: the row is that which the first m of k cells end in, for some m from t on. Assumes nothing.
use Prim.Native.Nat.{◌-◌}
use mathlib.Core.Path.{sym, ◌∙◌}
use native.Mathlib.Omega.{arith}
use Rattle.row_links.proofs.Linking.{row-most, row_same, row_next}
use Rattle.row_links.proofs.row_under.Goals as goal

pub read_link-row-requires-in-loop-row : goal.read_link-row-requires-in-loop-row
read_link-row-requires-in-loop-row c = let v = c.loop-row.invariant in
    omega (arith, row-most c.args.cursor.now v.0)

pub loop-row-smaller : goal.loop-row-smaller
loop-row-smaller c = let v = c.loop-row.invariant in
    let s = c.args.cursor.now in
    let row = c.loop-row.row in
    omega (arith, c.read_link-row-in-loop-row.ensures.0, row_next c.args.rows.now s c.args.k v.0 row c.requires.1.rows v.2 v.3 (omega arith), row-most s (row - 1))

pub loop-row-preserved : goal.loop-row-preserved
loop-row-preserved c = let v = c.loop-row.invariant in
    let s = c.args.cursor.now in
    let row = c.loop-row.row in (
      row - 1,
      omega arith,
      omega (arith, v.2, v.3, row-most s v.0),
      c.read_link-row-in-loop-row.ensures.0 ∙ row_next c.args.rows.now s c.args.k v.0 row c.requires.1.rows v.2 v.3 (omega arith),
    )

pub returns : goal.returns
returns c = let v = c.loop-row.invariant in
    v.3 ∙ sym (row_same c.args.cursor.now v.0 c.args.t v.1 (omega arith))
