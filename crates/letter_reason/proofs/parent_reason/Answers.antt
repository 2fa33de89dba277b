-- The part in whose hole the node stands is its parent, else the node at the cells below its row; without such cells it is a root. Assumes
-- nothing.
use native.Mathlib.Omega.{arith}
use Rattle.forest.specs.Walk.{cells_in}
use Rattle.facts.specs.Facts.{facts_in}
use Rattle.move_parts.proofs.Outcomes.{found_turn, found-kept, found_none}
use Rattle.letter_reason.proofs.Leads.{root-stops, parent-moves, part-moves}
use Rattle.letter_reason.proofs.parent_reason.Goals as goal

pub returns-then-below_row-eq0 : goal.returns-then-below_row-eq0
returns-then-below_row-eq0 c = let a = c.args in
    let off = found_none c.outward.ensures c.in-Off.is in
    root-stops (facts_in a.rows.now) a.cursor.now a.at.rule a.at.used _ _ off c.under.ensures.1 c.below_row.ensures c.if-below_row-eq0.true

pub returns-in-Turn : goal.returns-in-Turn
returns-in-Turn c = let a = c.args in
    part-moves (facts_in a.rows.now) a.at.rule (cells_in a.cursor.now a.at.used) (found_turn c.outward.ensures c.in-Turn.is).0

pub returns-in-Kept : goal.returns-in-Kept
returns-in-Kept c = let a = c.args in
    part-moves (facts_in a.rows.now) a.at.rule (cells_in a.cursor.now a.at.used) (found-kept c.outward.ensures c.in-Kept.is).0

pub returns-else-below_row-eq0 : goal.returns-else-below_row-eq0
returns-else-below_row-eq0 c = let a = c.args in
    let off = found_none c.outward.ensures c.in-Off.is in
    parent-moves (facts_in a.rows.now) a.cursor.now a.at.rule a.at.used _ _ off c.under.ensures.1 c.below_row.ensures
    (omega (arith, c.if-below_row-eq0.false))
