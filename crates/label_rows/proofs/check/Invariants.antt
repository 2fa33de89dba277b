-- Before row i the check answers of the rows from there on what it answers of the list. Assumes nothing.
use Rattle.std.proofs.Common.{◌≡◌, drop}
use Rattle.std.specs.Prelude.{Ok}
use Rattle.label_rows.specs.Coverage.{coverage_from, coverage}
use Rattle.label_rows.proofs.check.Given as goal

abbrev pub invariant-loop-i : goal.invariant-loop-i
invariant-loop-i l = coverage l.rows ≡ coverage_from (Ok l.next) l.i (drop l.i l.rows)
