-- Refused before, refused for the work, or loaded. Assumes nothing.
use mathlib.Core.Path.{sym, ◌∙◌}
use Rattle.work_rows.proofs.Work.{enough-room}
use Rattle.work_load.proofs.Prepares.{refused, lent, loaded}
use Rattle.refusal.proofs.Passed.{handed-on}
use Rattle.work_load.proofs.load_judged.Goals as goal

pub returns-then-not-enough_work : goal.returns-then-not-enough_work
returns-then-not-enough_work c = lent _ _ _ _ _ c.in_ok-n.was (sym c.enough_work.ensures ∙ c.if-not-enough_work.true)

pub arrange-requires : goal.arrange-requires
arrange-requires c = record {
  start = _;
  accepted = c.requires.accepts _ _ c.in_ok-n.was;
  room = enough-room _ _ (sym c.enough_work.ensures ∙ c.if-not-enough_work.false);
}

pub returns : goal.returns
returns c =
    loaded _ _ _ _ _ c.in_ok-n.was c.requires (sym c.enough_work.ensures ∙ c.if-not-enough_work.false) c.arrange.ensures

pub returns-in_err-n : goal.returns-in_err-n
returns-in_err-n c = rw (handed-on c.from_residual.result c.from_residual.ensures.1) (refused _ _ _ _ c.in_err-n.was)
