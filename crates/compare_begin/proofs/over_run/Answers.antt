-- A left run is taken, and a right one adds nothing: the cases of `over_run`. Assumes nothing.
use Rattle.compare_begin.proofs.Holes.{left-ready, left-taken, right-taken}
use Rattle.compare_begin.proofs.over_run.Goals as goal

pub left_run-requires : goal.left_run-requires
left_run-requires c = left-ready c.requires c.read-cell.ensures c.if-cell-eq-LEFT.true

pub returns-then-cell-eq-LEFT : goal.returns-then-cell-eq-LEFT
returns-then-cell-eq-LEFT c = left-taken c.requires c.read-cell.ensures c.if-cell-eq-LEFT.true c.left_run.ensures

pub returns : goal.returns
returns c = right-taken c.requires c.read-cell.ensures c.if-cell-eq-LEFT.false
