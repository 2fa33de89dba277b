-- The invariant: the marked variants at the places below i are written (`Writing`). Assumes nothing.
use native.Mathlib.Omega.{arith}
use Rattle.copy_marks.proofs.Marks.{kept-markable}
use Rattle.copy_marks.proofs.Records.{writing_start, writing-writable, writing_more, writing-end}
use Rattle.copy_marks.proofs.write.Goals as goal

pub loop-i-init : goal.loop-i-init
loop-i-init c = writing_start _ _ _

pub placed_at-k-requires : goal.placed_at-k-requires
placed_at-k-requires c = (kept-markable _ c.loop-i.invariant.only c.requires.markable, omega arith)

pub write_variant-m-requires : goal.write_variant-m-requires
write_variant-m-requires c = (writing-writable c.requires c.loop-i.invariant, c.placed_at-k.ensures.1, omega (arith, c.loop-i.invariant.few))

pub loop-i-preserved : goal.loop-i-preserved
loop-i-preserved c = writing_more c.requires c.loop-i.invariant c.loop-i-test.true c.placed_at-k.ensures c.write_variant-m.ensures

pub returns : goal.returns
returns c = writing-end c.requires c.loop-i.invariant c.loop-i-test.false
