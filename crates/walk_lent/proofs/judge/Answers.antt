-- Refused by check, or by 8: both tests are those of `enough_place`. Assumes nothing.
use mathlib.Core.Path.{sym, ap₂, ◌∙◌}
use mathlib.Core.Bool.{◌&&◌}
use Rattle.forest.specs.Walk.{enough_place}
use Rattle.walk_lent.proofs.Judged.{judged-enough, judged-lent, judged-refused}
use Rattle.refusal.proofs.Passed.{handed-on}
use Rattle.walk_lent.proofs.judge.Goals as goal

pub returns-then-enough_work-enough_cursor : goal.returns-then-enough_work-enough_cursor
unfolding enough_place
returns-then-enough_work-enough_cursor c = let accepted = sym c.check.ensures ∙ c.in_ok-checked.was in
    judged-enough _ _ accepted (sym (ap₂ ◌&&◌ c.enough_work.ensures c.enough_cursor.ensures) ∙ c.if-enough_work-enough_cursor.true)

pub returns : goal.returns
unfolding enough_place
returns c = let accepted = sym c.check.ensures ∙ c.in_ok-checked.was in
    judged-lent _ _ accepted (sym (ap₂ ◌&&◌ c.enough_work.ensures c.enough_cursor.ensures) ∙ c.if-enough_work-enough_cursor.false)

pub returns-in_err-checked : goal.returns-in_err-checked
returns-in_err-checked c = rw (handed-on c.from_residual.result c.from_residual.ensures.1) (judged-refused _ _ (sym c.check.ensures ∙ c.in_err-checked.was))
