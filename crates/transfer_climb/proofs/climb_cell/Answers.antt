-- Each return is a kind of cell; what the cells name has rows. Assumes nothing.
use native.Mathlib.Omega.{arith}
use Rattle.place_cells.proofs.Stack.{top-kind, top_one, top-two}
use mathlib.Core.Path.{sym, ◌∙◌}
use Rattle.move_parts.proofs.Held.{held-top, held-less}
use Rattle.transfer_climb.proofs.Levels.{took-here}
use Rattle.transfer_climb.proofs.Cells.{took-same, right-spot, spine-spot, other-spot, row-took, took-first, standing-in}
use Rattle.transfer_climb.proofs.climb_cell.Goals as goal

pub steps_between-steps-requires : goal.steps_between-steps-requires
steps_between-steps-requires c = let past-read = c in
    let entry = past-read in
    let fits = held-top entry.requires.1 entry.requires.2 in
    let kind = sym (top-kind past-read.read-cell.ensures) ∙ c.if-kind-eq-RIGHT.true in
    (rw (top_one past-read.read-cell.ensures) (fits.one (λ q. omega arith)), rw (top-two past-read.read-cell.ensures) fits.two)

pub right_run-requires : goal.right_run-requires
right_run-requires c = let past-test = c in
    let past-read = past-test in
    let entry = past-read in
    let fits = held-top entry.requires.1 entry.requires.2 in
    let kind = sym (top-kind past-read.read-cell.ensures) ∙ past-test.if-kind-eq-RIGHT.true in
    (entry.requires.0, rw (top_one past-read.read-cell.ensures) (fits.one (λ q. omega arith)), entry.requires.3)

pub returns-then-kind-eq-RIGHT : goal.returns-then-kind-eq-RIGHT
returns-then-kind-eq-RIGHT c = let past-run = c in
    let past-steps = past-run in
    let past-read = past-steps in
    took-same (right-spot _ _ _ _ _ past-read.read-cell.ensures past-steps.if-kind-eq-RIGHT.true past-steps.steps_between-steps.ensures)
    past-run.right_run.ensures

pub standing-under-requires : goal.standing-under-requires
standing-under-requires c = let entry = c in
    held-less entry.requires.1 _ (omega arith)

pub open_tree-requires : goal.open_tree-requires
open_tree-requires c = let past-standing = c in
    let entry = past-standing in
    (entry.requires.0, standing-in entry.requires.0 entry.requires.1 past-standing.standing-under.ensures, entry.requires.3)

pub returns-then-kind-eq-SPINE : goal.returns-then-kind-eq-SPINE
returns-then-kind-eq-SPINE c = let past_open = c in
    let past-standing = past_open in
    let past-test = past-standing in
    took-same (spine-spot _ _ _ _ _ past-test.read-cell.ensures past-test.if-kind-eq-SPINE.true past-standing.standing-under.ensures)
    past_open.open_tree.ensures

pub returns-then-kind-ne-ROW : goal.returns-then-kind-ne-ROW
returns-then-kind-ne-ROW c = let past-spine = c in
    let past-right = past-spine in
    let past-read = past-right in
    let entry = past-read in
    took-same
    (other-spot _ _ _ _ _ past-read.read-cell.ensures past-right.if-kind-eq-RIGHT.false past-spine.if-kind-eq-SPINE.false c.if-kind-ne-ROW.true)
    (took-here entry.requires.3)

pub returns-then-i-eq1 : goal.returns-then-i-eq1
returns-then-i-eq1 c = let past_row = c in
    let past-read = past_row in
    took-first _ _ _ _ _ past-read.read-cell.ensures _ past_row.if-kind-ne-ROW.false c.if-i-eq1.true

pub standing-under-requires-2 : goal.standing-under-requires-2
standing-under-requires-2 c = let entry = c in
    held-less entry.requires.1 _ (omega arith)

pub row_before-ahead-requires : goal.row_before-ahead-requires
row_before-ahead-requires c = let entry = c in
    (entry.requires.0, standing-in entry.requires.0 entry.requires.1 c.standing-under-2.ensures)

pub returns : goal.returns
returns c = let past-enter = c in
    let past-before = past-enter in
    let past-standing = past-before in
    let past_first = past-standing in
    let past-read = past_first in
    let entry = past-read in
    row-took _ _ _ _ _ past-read.read-cell.ensures past_first.if-kind-ne-ROW.false (omega (arith, past_first.if-i-eq1.false, entry.requires.2))
    past-standing.standing-under-2.ensures past-before.row_before-ahead.ensures past-enter.enter.ensures
