-- The row's cell, the run across it, and the tree that it leads to. Assumes nothing.
use Prim.Native.Nat.{◌+◌}
use mathlib.Core.Path.{◌≡◌, sym, ◌∙◌}
use native.Mathlib.Omega.{arith}
use lib.ListN.{length}
use Rattle.std.specs.Prelude.{Some}
use Rattle.forest.specs.Walk.{cells_in}
use Rattle.side.specs.Side.{side_of}
use Rattle.model.specs.Model.{opened}
use Rattle.facts.specs.Facts.{facts_in}
use Rattle.place_cells.specs.Cells.{run_cell}
use Rattle.place_cells.specs.Changes.{add, high}
use Rattle.place_cells.proofs.Writes.{high-most, high-grows, length-cells, put-none, put-more}
use Rattle.letter_arrival.proofs.Puts.{put-there, stood-is, stood-then, opened-longer, entered-cells, entered-long}
use Rattle.letter_arrival.proofs.put_row.Goals as goal

pub push-k-requires : goal.push-k-requires
push-k-requires c = let a = c.args in let F = facts_in a.work.now in let d = side_of a.side in let cs = cells_in a.cursor.now a.k in
    let room = c.requires.2 in
    omega (arith, high-most (Some c.row.result) a.k, entered-long F d a.number a.over cs, high-grows (run_cell F d a.over) (length cs + 1), length-cells a.cursor.now a.k)

pub push-k-requires-2 : goal.push-k-requires-2
unfolding high
push-k-requires-2 c = let a = c.args in let F = facts_in a.work.now in let d = side_of a.side in let s = a.cursor.now in let cs = cells_in s a.k in
    let room = c.requires.2 in
    let same = c.push-k.ensures.1.within.same_length in
    let count : c.push-k.result ≡ length cs + 1 = c.push-k.ensures.0 ∙ (λ i. high (Some (c.row.ensures i)) (sym (length-cells s a.k) i)) in
    let more : high c.run_from.result c.push-k.result ≡ high (run_cell F d a.over) (length cs + 1) = (λ i. high (c.run_from.ensures i) (count i)) in
    omega (arith, more, entered-long F d a.number a.over cs)

pub put_tree-requires : goal.put_tree-requires
put_tree-requires c = let a = c.args in let h = c.requires in let F = facts_in a.work.now in let d = side_of a.side in let s = a.cursor.now in let cs = cells_in s a.k in
    let p = put-more c.run_from.result (put-more (Some c.row.result) (put-none s a.k) c.push-k.ensures) c.push-k-2.ensures in
    let same = c.push-k.ensures.1.within.same_length in
    let same' = c.push-k-2.ensures.1.within.same_length in
    let room = h.2 in
    (h.0, rw c.last_at.ensures (h.0.ends d a.over h.1), rw (put-there p, c.last_at.ensures, c.run_from.ensures, c.row.ensures, entered-cells F d a.number a.over cs) (omega arith))

pub returns : goal.returns
returns c = let a = c.args in let F = facts_in a.work.now in let d = side_of a.side in let s = a.cursor.now in let cs = cells_in s a.k in
    let row = Some c.row.result in let across = c.run_from.result in let tree = c.last_at.result in
    stood-is ((λ i. opened F (c.last_at.ensures i) (add (c.run_from.ensures i) (add (Some (c.row.ensures i)) cs))) ∙ entered-cells F d a.number a.over cs)
    (stood-then (opened F tree) (let more = opened-longer F tree (add across (add row cs)) in omega arith)
    (put-more across (put-more row (put-none s a.k) c.push-k.ensures) c.push-k-2.ensures) c.put_tree.ensures)
