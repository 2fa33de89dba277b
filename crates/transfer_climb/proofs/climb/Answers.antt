-- The invariant: the first i cells are read (`Climbing`). Assumes nothing.
use native.Mathlib.Omega.{arith}
use Rattle.move_parts.proofs.Held.{held-less}
use Rattle.transfer_climb.proofs.Levels.{ready-few}
use Rattle.transfer_climb.proofs.Cells.{climbing-start, climb-none, climb-more, climb-far, climb-end}
use Rattle.transfer_climb.proofs.climb.Goals as goal

pub returns-then-k-eq0 : goal.returns-then-k-eq0
returns-then-k-eq0 c = climb-none _ _ _ _ c.if-k-eq0.true

pub loop-i-init : goal.loop-i-init
loop-i-init c = climbing-start _ _ _ _ c.requires.2

pub climb_cell-requires : goal.climb_cell-requires
climb_cell-requires c = (c.requires.0, held-less c.requires.1 _ (omega (arith, c.loop-i-test.true)), omega arith, c.loop-i.invariant.reached.ready)

pub returns-in_err-at : goal.returns-in_err-at
returns-in_err-at c = rw c.from_residual.ensures (climb-far c.loop-i.invariant c.loop-i-test.true c.climb_cell.ensures c.in_err-at.was)

pub loop-i-preserved : goal.loop-i-preserved
loop-i-preserved c = climb-more c.loop-i.invariant c.loop-i-test.true c.climb_cell.ensures c.in_ok-at.was

pub overflow_add-result : goal.overflow_add-result
overflow_add-result c = omega (arith, ready-few c.loop-i.invariant.reached.ready)

pub returns : goal.returns
returns c = climb-end c.loop-i.invariant c.loop-i-test.false c.if-k-eq0.false c.put_level.ensures
