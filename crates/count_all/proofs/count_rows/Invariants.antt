-- The invariant: the rules at the first i places have their counts, and nothing else has changed (`Passing`). Assumes nothing.
use Rattle.count_all.proofs.Passes.{Passing}
use Rattle.count_all.proofs.count_rows.Given as goal

abbrev pub invariant-loop-i : goal.invariant-loop-i
invariant-loop-i l = Passing l.n l.i l.initial.work l.work
