-- The search begins in a room that is cleared (`order-begins`). Assumes nothing.
use Rattle.reach_order.proofs.Runs.{order-begins, order-answers}
use Rattle.reach_order.proofs.order.Goals as goal

pub visit_all-requires : goal.visit_all-requires
visit_all-requires c = order-begins c.requires c.clear.ensures

pub returns : goal.returns
returns c = order-answers c.requires c.clear.ensures c.visit_all.ensures
