-- An order of the rules says that none reaches itself; else the lowest that does is found. The array has room for all of them. Assumes nothing.
use mathlib.Core.Path.{sym, ◌∙◌}
use lib.ListN.{length-replicate}
use Rattle.reach.proofs.Orders.{orders-none}
use Rattle.reach_order.proofs.Placing.{ready-kept}
use Rattle.judge.specs.Judge.{cycle_judged}
use Rattle.judge.proofs.Fit.{passed-ranged}
use Rattle.judge.proofs.Searching.{searched}
use Rattle.judge.proofs.search.Goals as goal

pub order-requires : goal.order-requires
order-requires g c = searched c.requires.0 (simp length-replicate c.requires.1)

pub returns-then-order : goal.returns-then-order
unfolding cycle_judged
returns-then-order g c = c.judge_start.ensures ∙ sym (rw (orders-none (c.order.ensures.sorted c.if-order.true) (passed-ranged _ _ c.requires.0.passed)))

pub lowest-requires : goal.lowest-requires
lowest-requires g c = (
  ready-kept (searched c.requires.0 (simp length-replicate c.requires.1)) c.order.ensures.within,
  c.order.ensures.cyclic c.if-order.false,
)

pub returns : goal.returns
unfolding cycle_judged
returns g c = c.cycle_from.ensures ∙ rw c.lowest.ensures.0
