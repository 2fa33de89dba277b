-- The loop's invariant: the lines from the counter on are what is left of all lines. Assumes nothing.
use Prim.Native.Nat.{◌-◌, ◌*◌}
use native.Mathlib.Omega.{arith}
use Rattle.decimal.proofs.Texts.{pushing-start, pushing-more, pushing-end}
use Rattle.page_line.specs.Page.{line_bytes}
use Rattle.page_line.proofs.Lines.{pushed-so, blanks-long, blanks-all, blanks-more, blanks-none}
use Rattle.page_line.proofs.put_blank_lines.Goals as goal

pub loop-init : goal.loop-init
loop-init c = pushing-start (blanks-all c.args.m) (omega (arith, blanks-long c.args.m))

pub put_blank_line-requires : goal.put_blank_line-requires
put_blank_line-requires c = omega (arith, blanks-long (c.args.m - c.loop.counter), c.loop.invariant.left.room)

pub loop-preserved : goal.loop-preserved
loop-preserved c = pushing-more (blanks-more c.args.m c.loop.counter (omega arith)) c.put_blank_line.ensures.0 c.loop.invariant

pub returns : goal.returns
returns c = pushed-so (line_bytes * c.args.m) (blanks-long c.args.m) (pushing-end (blanks-none c.args.m c.loop.counter (omega arith)) c.loop.invariant)
