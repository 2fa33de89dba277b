-- The part beside in the spine, else the part under the spine's opening. Assumes nothing.
use mathlib.Core.Path.{sym, ap, ◌∙◌}
use native.Mathlib.Omega.{arith}
use Rattle.forest.specs.Place.{Side}
use Rattle.forest.specs.Walk.{cells_in}
use Rattle.model.specs.Model.{beside_top, part_at, tail}
use Rattle.side.specs.Side.{side_of}
use Rattle.facts.specs.Facts.{facts_in}
use Rattle.move_parts.specs.Change.{reached, Turned, ReachedOf}
use Rattle.move_parts.proofs.Held.{held-less}
use Rattle.move_parts.proofs.Turns.{turning-beside}
use Rattle.move_parts.proofs.Outcomes.{reached-more, outward-part, outward-off}
use Rattle.move_parts.proofs.outward.Goals as goal

pub above_top-requires : goal.above_top-requires
above_top-requires c = held-less c.requires _ c.pop_run-j.ensures.0

pub returns-in-Some : goal.returns-in-Some
unfolding side_of reached Turned ReachedOf
returns-in-Some c = let a = c.args in let F = facts_in a.work.now in let s = a.cursor.now in let cs = cells_in s a.k in
    let h = c.above_top.ensures.turns _ c.in-Some.is in
    record {
      node = sym (outward-part F cs (ap (beside_top F Side.left) (sym c.pop_run-j.ensures.1) ∙ turning-beside h));
      turned = h;
      keeps = c.pop_run-j.ensures.0;
    }

pub part_at-requires : goal.part_at-requires
part_at-requires c = held-less c.requires _ (omega (arith, c.tail.ensures.0, c.pop_run-j.ensures.0))

pub returns : goal.returns
unfolding side_of
returns c = let a = c.args in let F = facts_in a.work.now in let s = a.cursor.now in let cs = cells_in s a.k in
    reached-more (omega (arith, c.tail.ensures.0, c.pop_run-j.ensures.0))
    (ap (part_at F) (c.tail.ensures.1 s ∙ ap tail c.pop_run-j.ensures.1)
    ∙ sym (outward-off F cs (ap (beside_top F Side.left) (sym c.pop_run-j.ensures.1) ∙ c.above_top.ensures.off c.in_default.is)))
    c.part_at.result c.part_at.ensures
