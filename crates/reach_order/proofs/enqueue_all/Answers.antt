-- One after the other (`listed-both`). Assumes nothing.
use Rattle.reach_order.proofs.Finding.{no-names}
use Rattle.reach_order.proofs.Queues.{listable-one, listable-two, listed-none, listed-both}
use Rattle.reach_order.proofs.enqueue_all.Goals as goal

pub enqueue-one-requires : goal.enqueue-one-requires
enqueue-one-requires c = listable-one c.in-Some.is c.requires

pub enqueue-requires : goal.enqueue-requires
enqueue-requires c = listable-two c.in-Some.is c.requires c.enqueue-one.ensures

pub returns-in_default : goal.returns-in_default
returns-in_default c = listed-none (no-names c.in_default.not-Some) c.requires

pub returns : goal.returns
returns c = listed-both c.in-Some.is c.requires c.enqueue-one.ensures c.enqueue.ensures
