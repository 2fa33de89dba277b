-- The invariant: the first j parts are gone through (`Threading`). Each turn is a level more, so no more are asked than are told. Assumes nothing.
use Rattle.transfer_climb.proofs.Rows.{told}
use Rattle.transfer_climb.proofs.Steps.{threading-start, through-more, through-far, through-end}
use Rattle.transfer_climb.proofs.through.Goals as goal

pub loop-j-init : goal.loop-j-init
loop-j-init c = threading-start _ _ c.requires.3

pub returns-in_err-at : goal.returns-in_err-at
returns-in_err-at c = rw c.from_residual.ensures
    (through-far c.requires.2 (told c.requires.0 c.requires.1 c.tops_at-parts.ensures) c.loop-j.invariant c.loop-j-test.true
    (c.enter.ensures _ c.part_ahead-ahead.ensures) c.in_err-at.was)

pub loop-j-preserved : goal.loop-j-preserved
loop-j-preserved c = through-more c.requires.2 (told c.requires.0 c.requires.1 c.tops_at-parts.ensures) c.loop-j.invariant c.loop-j-test.true
    (c.enter.ensures _ c.part_ahead-ahead.ensures) c.in_ok-at.was

pub returns : goal.returns
returns c = through-end c.requires.2 (told c.requires.0 c.requires.1 c.tops_at-parts.ensures) c.loop-j.invariant c.loop-j-test.false
