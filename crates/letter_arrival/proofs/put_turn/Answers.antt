-- The step's law and the run back. Assumes nothing.
use mathlib.Core.Path.{◌≡◌, refl, ◌∙◌}
use native.Mathlib.Omega.{arith}
use lib.ListN.{length}
use Rattle.forest.specs.Place.{step}
use Rattle.forest.specs.Sides.{other}
use Rattle.forest.specs.Walk.{cells_in}
use Rattle.model.specs.Model.{shrunk}
use Rattle.facts.specs.Facts.{facts_in}
use Rattle.side.specs.Side.{side_of}
use Rattle.place_cells.specs.Cells.{run_cell}
use Rattle.place_cells.specs.Changes.{add, high}
use Rattle.place_cells.proofs.Writes.{high-grows, put-more}
use Rattle.move_parts.proofs.Held.{turns-above}
use Rattle.move_parts.proofs.Turns.{turned-cells}
use Rattle.letter_arrival.proofs.Puts.{stood-as, turned-long}
use Rattle.letter_arrival.proofs.put_turn.Goals as goal

pub toward_at-to-requires : goal.toward_at-to-requires
toward_at-to-requires c = rw c.requires.1 (turns-above c.requires.0)

pub put_short-used-requires : goal.put_short-used-requires
put_short-used-requires c = let a = c.args in let h = c.requires in let s = a.cursor.now in let F = facts_in a.work.now in let d = side_of a.side in
    let cs = shrunk F (other d) (cells_in s a.k) in
    let room = h.2 in
    let to = F.toward d a.above in
    (h.0, h.1, rw c.toward_at-to.ensures (omega (arith, turned-long F d a.above cs, high-grows (run_cell F (other d) to) (length (step d a.above to cs)))))

pub run_from-requires : goal.run_from-requires
run_from-requires c = let h = c.requires in rw c.toward_at-to.ensures (h.0.held.rows.steps (side_of c.args.side) c.args.above (rw h.1 (turns-above h.0)))

pub push-used-requires : goal.push-used-requires
push-used-requires c = let a = c.args in let h = c.requires in let s = a.cursor.now in let F = facts_in a.work.now in let d = side_of a.side in
    let cs = shrunk F (other d) (cells_in s a.k) in
    let room = h.2 in
    let to = F.toward d a.above in
    let same = c.put_short-used.ensures.1.within.same_length in
    let count : c.put_short-used.result ≡ length (step d a.above to cs) = c.put_short-used.ensures.0 ∙ (λ i. length (step d a.above (c.toward_at-to.ensures i) cs)) in
    let more : high c.run_from.result c.put_short-used.result ≡ high (run_cell F (other d) to) (length (step d a.above to cs)) = (λ i. high ((c.run_from.ensures ∙ (λ j. run_cell F (c.other-back.ensures j) (c.toward_at-to.ensures j))) i) (count i)) in
    omega (arith, more, turned-long F d a.above cs)

pub last_at-rule-requires : goal.last_at-rule-requires
last_at-rule-requires c = let h = c.requires in rw c.toward_at-to.ensures (h.0.held.rows.steps (side_of c.args.side) c.args.above (rw h.1 (turns-above h.0)))

pub returns : goal.returns
returns c = let a = c.args in let s = a.cursor.now in let F = facts_in a.work.now in let d = side_of a.side in
    let cs = shrunk F (other d) (cells_in s a.k) in
    let run = c.run_from.result in let to = c.toward_at-to.result in
    stood-as (c.last_at-rule.result, add run (step d a.above to cs))
    ((λ i. (
      (c.last_at-rule.ensures ∙ (λ j. F.last (c.other-back.ensures j) (c.toward_at-to.ensures j))) i,
      add ((c.run_from.ensures ∙ (λ j. run_cell F (c.other-back.ensures j) (c.toward_at-to.ensures j))) i) (step d a.above (c.toward_at-to.ensures i) cs),
    )) ∙ turned-cells F d a.above cs)
    (put-more run c.put_short-used.ensures c.push-used.ensures)
    refl
