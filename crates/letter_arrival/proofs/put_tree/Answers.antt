-- The spine's cell, and the run down it from the outer rule. Assumes nothing.
use Prim.Native.Nat.{◌+◌}
use mathlib.Core.Path.{◌≡◌, refl, sym, ◌∙◌}
use native.Mathlib.Omega.{arith}
use lib.ListN.{length}
use Rattle.std.specs.Prelude.{Some}
use Rattle.forest.specs.Place.{Side}
use Rattle.forest.specs.Walk.{cells_in}
use Rattle.side.specs.Side.{side_of}
use Rattle.model.specs.Model.{outer}
use Rattle.facts.specs.Facts.{facts_in}
use Rattle.facts.proofs.Closes.{outer-has}
use Rattle.place_cells.specs.Cells.{run_cell}
use Rattle.place_cells.specs.Changes.{add, high}
use Rattle.place_cells.proofs.Writes.{high-most, high-grows, length-cells, put-none, put-more}
use Rattle.move_parts.proofs.Outcomes.{opened-cells}
use Rattle.letter_arrival.proofs.Puts.{stood-as, opened-long}
use Rattle.letter_arrival.proofs.put_tree.Goals as goal

pub push-k-requires : goal.push-k-requires
push-k-requires c = let a = c.args in let F = facts_in a.work.now in let cs = cells_in a.cursor.now a.k in
    let room = c.requires.2 in
    omega (arith, high-most (Some c.spine.result) a.k, opened-long F a.tree cs, high-grows (run_cell F Side.left (outer F a.tree)) (length cs + 1), length-cells a.cursor.now a.k)

pub run_from-requires : goal.run_from-requires
run_from-requires c = rw c.outer_at-first.ensures (outer-has c.requires.0 c.args.tree c.requires.1)

pub push-k-requires-2 : goal.push-k-requires-2
unfolding side_of high
push-k-requires-2 c = let a = c.args in let F = facts_in a.work.now in let s = a.cursor.now in let cs = cells_in s a.k in
    let room = c.requires.2 in
    let same = c.push-k.ensures.1.within.same_length in
    let count : c.push-k.result ≡ length cs + 1 = c.push-k.ensures.0 ∙ (λ i. high (Some (c.spine.ensures i)) (sym (length-cells s a.k) i)) in
    let more : high c.run_from.result c.push-k.result ≡ high (run_cell F Side.left (outer F a.tree)) (length cs + 1) =
    (λ i. high ((c.run_from.ensures ∙ (λ j. run_cell F Side.left (c.outer_at-first.ensures j))) i) (count i)) in
    omega (arith, more, opened-long F a.tree cs)

pub last_at-rule-requires : goal.last_at-rule-requires
last_at-rule-requires c = rw c.outer_at-first.ensures (outer-has c.requires.0 c.args.tree c.requires.1)

pub returns : goal.returns
unfolding side_of
returns c = let a = c.args in let F = facts_in a.work.now in let s = a.cursor.now in let cs = cells_in s a.k in
    let spine = Some c.spine.result in let down = c.run_from.result in
    stood-as (c.last_at-rule.result, add down (add spine cs))
    ((λ i. (
      (c.last_at-rule.ensures ∙ (λ j. F.last Side.left (c.outer_at-first.ensures j))) i,
      add ((c.run_from.ensures ∙ (λ j. run_cell F Side.left (c.outer_at-first.ensures j))) i) (add (Some (c.spine.ensures i)) cs),
    )) ∙ opened-cells F a.tree cs)
    (put-more down (put-more spine (put-none s a.k) c.push-k.ensures) c.push-k-2.ensures)
    refl
