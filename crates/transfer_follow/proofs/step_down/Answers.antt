-- Where the branch leads is reached; a missing one writes nothing. Assumes nothing.
use mathlib.Core.Path.{ap, ◌∙◌}
use Rattle.std.specs.Prelude.{Some}
use Rattle.letter_moves.proofs.Stands.{walked-in}
use Rattle.transfer_follow.proofs.Levels.{row-asks, hole-asks, row-steps, hole-steps, missing-steps}
use Rattle.transfer_follow.proofs.step_down.Goals as goal

pub branch_at-requires : goal.branch_at-requires
branch_at-requires c = let here = c.requires.stands in
    (here.followable.counted, here.inside, walked-in here.followable.rows, c.requires.few)

pub reach_row-requires : goal.reach_row-requires
reach_row-requires c = row-asks c.branch_at.ensures c.requires.few (c.in_ok-number.was ∙ ap Some c.in-Row.is) c.requires.stands

pub reach_hole-requires : goal.reach_hole-requires
reach_hole-requires c = hole-asks c.branch_at.ensures c.requires.few (c.in_ok-number.was ∙ ap Some c.in-Hole.is) c.requires.stands

pub returns-in-Row : goal.returns-in-Row
returns-in-Row c = row-steps c.branch_at.ensures c.requires.few (c.in_ok-number.was ∙ ap Some c.in-Row.is) c.reach_row.ensures

pub returns-in-Hole : goal.returns-in-Hole
returns-in-Hole c = hole-steps c.branch_at.ensures c.requires.few (c.in_ok-number.was ∙ ap Some c.in-Hole.is) c.reach_hole.ensures

pub returns-in_err-number : goal.returns-in_err-number
returns-in_err-number c = rw c.from_residual.ensures (missing-steps c.branch_at.ensures c.requires.few c.in_err-number.was)
