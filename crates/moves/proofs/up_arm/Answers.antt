-- Where a run turns, or a part lies under the spine's opening, u is that part, and its L or R is entered on its cells. Assumes nothing.
use mathlib.Core.Path.{refl, ap, ◌∙◌}
use Rattle.forest.specs.Place.{Side}
use Rattle.forest.specs.Sides.{other}
use Rattle.forest.specs.Walk.{cells_in}
use Rattle.model.specs.Model.{turned}
use Rattle.model.specs.Neighbour.{up}
use Rattle.facts.specs.Facts.{facts_in, In}
use Rattle.side.specs.Side.{side_of}
use Rattle.move_parts.specs.declared.Change.{Change}
use Rattle.move_parts.specs.Change.{entry_side, change_node, Able, AbleSibling, keep_of}
use Rattle.move_parts.proofs.Held.{turns-above}
use Rattle.move_parts.proofs.Kept.{found-rule, outward-kept}
use Rattle.move_parts.proofs.Outcomes.{found_turn, found-kept, found_none}
use Rattle.moves.specs.Arms.{ArmUp}
use Rattle.moves.proofs.Arms.{has-tree, is-empty}
use Rattle.moves.proofs.up_arm.Goals as goal

-- the rule above the last of the run that turns has a row, and so has the part that it turns to
pub toward_at-to-requires : goal.toward_at-to-requires
toward_at-to-requires c =
    let turn = (found_turn c.outward.ensures c.in-Turn.is).1 in
    rw turn.1 (turns-above turn.0)

pub last_at-rule-requires : goal.last_at-rule-requires
unfolding side_of
last_at-rule-requires c =
    let turn = (found_turn c.outward.ensures c.in-Turn.is).1 in
    rw c.toward_at-to.ensures (c.requires.rows.steps Side.left _ (rw turn.1 (turns-above turn.0)))

pub arm_of-requires : goal.arm_of-requires
unfolding side_of
arm_of-requires c =
    let turn = (found_turn c.outward.ensures c.in-Turn.is).1 in
    let to : In c.args.work.now c.toward_at-to.result = rw c.toward_at-to.ensures (c.requires.rows.steps Side.left _ (rw turn.1 (turns-above turn.0))) in
    (c.requires.rows, rw c.last_at-rule.ensures (c.requires.rows.ends Side.right _ to))

pub arm_of-requires-in-Kept : goal.arm_of-requires-in-Kept
arm_of-requires-in-Kept c =
    let a = c.args in
    let t = a.work.now in
    let h = c.requires in
    (h.rows, found-rule (In t) (found-kept c.outward.ensures c.in-Kept.is).0 (outward-kept (facts_in t) (In t) h.rows (cells_in a.cursor.now a.k) h.cells))

pub returns-in-Some : goal.returns-in-Some
unfolding side_of turned other change_node entry_side Able AbleSibling keep_of up
returns-in-Some c p =
    let a = c.args in
    let s = a.cursor.now in
    let F = facts_in a.work.now in
    let turn = found_turn c.outward.ensures c.in-Turn.is in
    let to : In a.work.now c.toward_at-to.result = rw c.toward_at-to.ensures (c.requires.rows.steps Side.left _ (rw turn.1.1 (turns-above turn.1.0))) in
    let row : In a.work.now c.last_at-rule.result = rw c.last_at-rule.ensures (c.requires.rows.ends Side.right _ to) in
    has-tree a.work.now s a.k (side_of a.side) (p, cells_in s a.k) turn.0
    (c.last_at-rule.ensures ∙ ap (F.last Side.right) c.toward_at-to.ensures) c.arm_of.ensures
    (Change.Beside c.in-Turn.keep c.in-Turn.above c.part_row-number.result c.in-Some.over)
    c.in-Some.is c.part_row-number.ensures refl c.requires.rows row
    (λ within. (turn.1, within)) turn.2

pub returns-in-None : goal.returns-in-None
unfolding side_of turned other up
returns-in-None c p =
    let a = c.args in
    let s = a.cursor.now in
    let F = facts_in a.work.now in
    let turn = found_turn c.outward.ensures c.in-Turn.is in
    is-empty a.work.now s a.k (side_of a.side) (p, cells_in s a.k) turn.0
    (c.last_at-rule.ensures ∙ ap (F.last Side.right) c.toward_at-to.ensures)
    c.arm_of.ensures c.in-None.is

pub returns-in-Some-arm_of : goal.returns-in-Some-arm_of
unfolding change_node entry_side Able AbleSibling keep_of up
returns-in-Some-arm_of c p =
    let a = c.args in
    let s = a.cursor.now in
    let t = a.work.now in
    let h = c.requires in
    let part = found-kept c.outward.ensures c.in-Kept.is in
    let row = found-rule (In t) part.0 (outward-kept (facts_in t) (In t) h.rows (cells_in s a.k) h.cells) in
    has-tree t s a.k (side_of a.side) (p, cells_in s a.k) part.0 refl c.arm_of-in-Kept.ensures
    (Change.Row c.in-Kept.keep c.part_row-number-in-Some-arm_of.result c.in-Some-arm_of.over)
    c.in-Some-arm_of.is c.part_row-number-in-Some-arm_of.ensures refl h.rows row
    (λ within. within) part.1

pub returns-in-None-arm_of : goal.returns-in-None-arm_of
unfolding up
returns-in-None-arm_of c p =
    let a = c.args in
    let s = a.cursor.now in
    let part = found-kept c.outward.ensures c.in-Kept.is in
    is-empty a.work.now s a.k (side_of a.side) (p, cells_in s a.k) part.0 refl
    c.arm_of-in-Kept.ensures c.in-None-arm_of.is

pub returns-in-Off : goal.returns-in-Off
unfolding ArmUp up
returns-in-Off c p = found_none c.outward.ensures c.in-Off.is
