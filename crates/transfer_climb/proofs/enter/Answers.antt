-- Each return is a case of what a level more comes to. Assumes nothing.
use Rattle.transfer_climb.proofs.Levels.{under-far, under-near}
use Rattle.transfer_climb.proofs.enter.Goals as goal

pub returns-then-at-ahead : goal.returns-then-at-ahead
returns-then-at-ahead c = λ m told. under-far c.requires m told c.if-at-ahead.true

pub returns : goal.returns
returns c = λ m told. under-near c.requires m told c.if-at-ahead.false c.put_level.ensures
