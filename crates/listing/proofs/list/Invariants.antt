-- The loop's invariant: the lines of the candidates from i on are left. Assumes nothing.
use Rattle.listing.specs.Left.{Left}
use Rattle.listing.proofs.list.Given as goal

abbrev pub invariant-loop-i : goal.invariant-loop-i
invariant-loop-i l = Left l.i l.printer.printed
