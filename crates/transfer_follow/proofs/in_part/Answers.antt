-- Before the hole the L, behind it the R. Assumes nothing.
use Rattle.forest.specs.Place.{row_of_part}
use Rattle.transfer_follow.proofs.Branches.{part_left_lem, part-hole, part_right}
use Rattle.transfer_follow.proofs.in_part.Goals as goal

pub returns-then-i-before : goal.returns-then-i-before
unfolding row_of_part
returns-then-i-before c = part_left_lem c.requires.0 c.requires.1 c.requires.3 c.tops_at-before.ensures _ c.if-i-before.true

pub returns-then-i-before-2 : goal.returns-then-i-before-2
returns-then-i-before-2 c = part-hole c.requires.0 c.requires.1 c.requires.3 c.tops_at-before.ensures _ c.if-i-before-2.true

pub returns : goal.returns
unfolding row_of_part
returns c = part_right c.requires.0 c.requires.1 c.requires.3 c.tops_at-before.ensures _
    c.if-i-before.false c.if-i-before-2.false c.in_row.ensures
