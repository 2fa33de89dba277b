-- The invariant: the search goes on from where it began. The measure: each turn opens a rule or closes one. Assumes nothing.
use native.Mathlib.Omega.{arith}
use Rattle.reach_order.proofs.Placing.{ready-kept}
use Rattle.reach_order.proofs.Turns.{grown-both, search-room}
use Rattle.reach_order.proofs.Runs.{made-opened, made-closed, run-again, run-cycle, run-done}
use Rattle.reach_order.proofs.run.Goals as goal

pub overflow_add-top : goal.overflow_add-top
overflow_add-top c = let v = c.loop-top.invariant in omega (arith, v.0.few, search-room v.0 v.1)

pub loop-top-smaller-in-Opened : goal.loop-top-smaller-in-Opened
loop-top-smaller-in-Opened c = let v = c.loop-top.invariant in omega (arith, search-room (ready-kept v.0 c.turn.ensures.grown.within) (made-opened c.turn.ensures c.in-Opened.is))

pub loop-top-preserved-in-Opened : goal.loop-top-preserved-in-Opened
loop-top-preserved-in-Opened c = let v = c.loop-top.invariant in run-again v c.turn.ensures.grown (made-opened c.turn.ensures c.in-Opened.is)

pub overflow_add-done : goal.overflow_add-done
overflow_add-done c = let v = c.loop-top.invariant in omega (arith, v.0.few, search-room v.0 v.1)

pub loop-top-smaller : goal.loop-top-smaller
loop-top-smaller c = let v = c.loop-top.invariant in omega (arith, search-room v.0 v.1)

pub loop-top-preserved : goal.loop-top-preserved
loop-top-preserved c = let v = c.loop-top.invariant in run-again v c.turn.ensures.grown (made-closed c.turn.ensures c.in-Closed.is)

pub returns-in-Cycle : goal.returns-in-Cycle
returns-in-Cycle c = let v = c.loop-top.invariant in run-cycle c.turn.ensures (grown-both v.2 c.turn.ensures.grown) c.in-Cycle.is

pub returns : goal.returns
returns c = let v = c.loop-top.invariant in run-done v.2 v.1 (omega arith)
