-- The invariant: the steps so far are taken (`Running`), to a rule with a row. Assumes nothing.
use Rattle.forest.specs.Place.{Side}
use Rattle.side.specs.Side.{side_of}
use Rattle.transfer_climb.proofs.Steps.{running-start, run_more, run-far}
use Rattle.transfer_climb.proofs.right_run.Goals as goal

pub loop-init : goal.loop-init
loop-init c = (c.requires.1, running-start _ _ _ _ c.requires.2)

pub returns-in_err-at : goal.returns-in_err-at
returns-in_err-at c = rw c.from_residual.ensures (run-far c.loop.invariant.1 c.loop-test.true c.right_step.ensures c.in_err-at.was)

pub loop-preserved : goal.loop-preserved
unfolding side_of
loop-preserved c = (
  rw c.toward_at-rule.ensures (c.requires.0.closes.steps Side.right _ c.loop.invariant.0),
  run_more c.loop.invariant.1 c.loop-test.true c.right_step.ensures c.in_ok-at.was c.toward_at-rule.ensures,
)
