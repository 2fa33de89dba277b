-- The invariant: from the marks as they are, the places below i go on to the last (`Passing`). Assumes nothing.
use native.Mathlib.Omega.{arith}
use Rattle.copy_marks.proofs.Marks.{kept-markable}
use Rattle.copy_marks.proofs.Passing.{passing-start, passing-more, passing-end}
use Rattle.copy_marks.proofs.mark_all.Goals as goal

pub loop-i-init : goal.loop-i-init
loop-i-init c = passing-start c.requires (omega arith)

pub placed_at-k-requires : goal.placed_at-k-requires
placed_at-k-requires c = (kept-markable _ c.loop-i.invariant.only c.requires, omega arith)

pub pass-requires : goal.pass-requires
pass-requires c = (kept-markable _ c.loop-i.invariant.only c.requires, omega (arith, c.placed_at-k.ensures.1))

pub loop-i-preserved : goal.loop-i-preserved
loop-i-preserved c = passing-more c.requires c.loop-i.invariant (omega (arith, c.loop-i-test.true)) c.placed_at-k.ensures.0 c.pass.ensures

pub returns : goal.returns
returns c = passing-end c.requires c.loop-i.invariant (omega (arith, c.loop-i-test.false))
