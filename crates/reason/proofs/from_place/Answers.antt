-- The place that is opened has its reason decided on its cells; one that is none is refused. Assumes nothing.
use Rattle.reason.proofs.Meaning.{opened-reason, not_opened}
use Rattle.refusal.proofs.Passed.{handed-on}
use Rattle.reason.proofs.from_place.Goals as goal

pub reason_at-requires : goal.reason_at-requires
reason_at-requires c = (c.open.ensures.at _ _ c.in_ok-walked.was).place

pub returns : goal.returns
returns c = opened-reason (c.open.ensures.at _ _ c.in_ok-walked.was) _ c.reason_at.ensures

pub returns-in_err-walked : goal.returns-in_err-walked
returns-in_err-walked c =
    rw (handed-on c.from_residual.result c.from_residual.ensures.1) (not_opened _ _ (c.open.ensures.refused _ c.in_err-walked.was))
