-- The invariant: j levels are followed, and the rest of the path leads where all of it does (`Descending`). Assumes nothing.
use native.Mathlib.Omega.{arith}
use Prim.Native.Nat.{◌<◌}
use Rattle.transfer_reach.proofs.Turning.{no-value}
use Rattle.transfer_follow.proofs.Levels.{descending-start, descending-more, descended-stops, descended-all}
use Rattle.transfer_follow.proofs.descend.Goals as goal

pub loop-j-init : goal.loop-j-init
loop-j-init c = descending-start _ _ c.requires.0

pub returns-in_default : goal.returns-in_default
returns-in_default c = let some = c.requires.1.from_one c.loop-j.j c.loop-j-test.true in
    let read = c.read16-number.ensures in
    descended-stops c.loop-j.invariant c.loop-j-test.true read (let l : 0 < c.read16-number.result = omega arith in l)
    c.step_down.ensures (no-value c.in_default.not-Some)

pub loop-j-preserved : goal.loop-j-preserved
loop-j-preserved c = let some = c.requires.1.from_one c.loop-j.j c.loop-j-test.true in
    let read = c.read16-number.ensures in
    descending-more c.loop-j.invariant c.loop-j-test.true read (let l : 0 < c.read16-number.result = omega arith in l)
    c.step_down.ensures c.in-Some.is

pub returns : goal.returns
returns c = descended-all c.loop-j.invariant c.loop-j-test.false
