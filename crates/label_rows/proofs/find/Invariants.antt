-- The row sought is one of those that are left, and each turn leaves fewer. Assumes nothing.
use Rattle.label_rows.proofs.Search.{Within}
use Rattle.label_rows.proofs.find.Given as goal

abbrev pub invariant-loop-count : goal.invariant-loop-count
invariant-loop-count l = Within l.rows l.label l.low l.count

abbrev pub decreases-loop-count : goal.decreases-loop-count
decreases-loop-count l = l.count
