-- Each return is a form of cell. Assumes nothing.
use Prim.Native.Nat.{ℕ}
use mathlib.Core.Path.{sym, ap, ◌∙◌}
use Rattle.std.specs.Prelude.{Option}
use Rattle.forest.specs.Place.{Side, cell_run}
use Rattle.model.specs.Stored.{after_row, next}
use Rattle.side.specs.Side.{side_of}
use Rattle.facts.specs.Facts.{facts_in, In}
use Rattle.place_cells.specs.Cells.{words}
use Rattle.place_check.specs.States.{state_of, after_spine}
use Rattle.place_check.proofs.States.{row-in-has, form-three, form-row, form-spine, form-two, form-run, form-else}
use Rattle.place_check.proofs.next.Goals as goal

pub returns-then-cell-ne0 : goal.returns-then-cell-ne0
unfolding next
returns-then-cell-ne0 c = let a = c.args in let F = facts_in a.work.now in let w = words a.cell in let st = state_of a.state in
    sym (ap (next F a.r st) (form-three w c.if-cell-ne0.true))

pub after_row-requires : goal.after_row-requires
after_row-requires c = let a = c.args in let F = facts_in a.work.now in let w = words a.cell in let st = state_of a.state in
    rw c.row_in.ensures (row-in-has F (In a.work.now) c.requires.0 a.r st a.cell.one c.requires.2 c.requires.3)

pub returns-then-cell-eq-ROW : goal.returns-then-cell-eq-ROW
unfolding next
returns-then-cell-eq-ROW c = let a = c.args in let F = facts_in a.work.now in let w = words a.cell in let st = state_of a.state in
    c.after_row.ensures ∙ ap (λ (m : Option ℕ). after_row F m a.cell.two) c.row_in.ensures
    ∙ sym (ap (next F a.r st) (form-row w c.if-cell-ne0.false c.if-cell-eq-ROW.true))

pub returns-then-cell-eq0 : goal.returns-then-cell-eq0
unfolding next after_spine
returns-then-cell-eq0 c = let a = c.args in let F = facts_in a.work.now in let w = words a.cell in let st = state_of a.state in
    c.after_spine.ensures ∙ sym (ap (next F a.r st) (form-spine w c.if-cell-ne0.false c.if-cell-eq-SPINE.true c.if-cell-eq0.true))

pub returns-then-cell-eq-SPINE : goal.returns-then-cell-eq-SPINE
unfolding next
returns-then-cell-eq-SPINE c = let a = c.args in let F = facts_in a.work.now in let w = words a.cell in let st = state_of a.state in
    sym (ap (next F a.r st) (form-two w c.if-cell-ne0.false c.if-cell-eq-SPINE.true c.if-cell-eq0.false))

pub returns-then-cell-eq-LEFT : goal.returns-then-cell-eq-LEFT
unfolding next side_of cell_run
returns-then-cell-eq-LEFT c = let a = c.args in let F = facts_in a.work.now in let w = words a.cell in let st = state_of a.state in
    c.after_run.ensures ∙ sym (ap (next F a.r st) (form-run w c.if-cell-ne0.false Side.left c.if-cell-eq-LEFT.true))

pub returns-then-cell-eq-RIGHT : goal.returns-then-cell-eq-RIGHT
unfolding next side_of cell_run
returns-then-cell-eq-RIGHT c = let a = c.args in let F = facts_in a.work.now in let w = words a.cell in let st = state_of a.state in
    c.after_run-then-cell-eq-RIGHT.ensures ∙ sym (ap (next F a.r st) (form-run w c.if-cell-ne0.false Side.right c.if-cell-eq-RIGHT.true))

pub returns : goal.returns
unfolding next
returns c = let a = c.args in let F = facts_in a.work.now in let w = words a.cell in let st = state_of a.state in
    sym (ap (next F a.r st) (form-else w c.if-cell-ne0.false c.if-cell-eq-ROW.false c.if-cell-eq-SPINE.false c.if-cell-eq-LEFT.false c.if-cell-eq-RIGHT.false))
