-- Nothing is printed before the first candidate, and nothing is left behind the last. Assumes nothing.
use native.Mathlib.Omega.{arith}
use Rattle.listing.proofs.Printed.{left-begins, left-ends}
use Rattle.listing.proofs.list.Goals as goal

pub loop-i-init : goal.loop-i-init
loop-i-init c = rw c.new-printer.ensures.printed left-begins

pub returns : goal.returns
returns c = left-ends c.loop-i.invariant (omega arith)
