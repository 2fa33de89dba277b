-- Each return is a case of what more trees beside come to. Assumes nothing.
use native.Mathlib.Omega.{arith}
use Rattle.transfer_climb.proofs.Levels.{beside-far, beside-near}
use Rattle.transfer_climb.proofs.pass.Goals as goal

pub returns-then-tops-at : goal.returns-then-tops-at
returns-then-tops-at c = λ path m g told. beside-far g m told (omega (arith, c.if-tops-at.true, c.ranges))

pub returns : goal.returns
returns c = λ path m g told. beside-near g m told (omega (arith, c.if-tops-at.false, c.ranges))
