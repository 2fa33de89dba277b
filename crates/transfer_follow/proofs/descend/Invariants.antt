-- The invariant: j levels are followed, and the rest of the path leads where all of it does (`Descending`). Assumes nothing.
use Rattle.transfer_follow.proofs.Levels.{Descending}
use Rattle.transfer_follow.proofs.descend.Given as goal

abbrev pub invariant-loop-j : goal.invariant-loop-j
invariant-loop-j l = Descending l.rows l.initial.cursor l.start l.path l.levels l.cursor l.at l.j
