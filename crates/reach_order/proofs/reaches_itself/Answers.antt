-- The search begins with the rules that rule i names (`follow-begins`). Assumes nothing.
use Rattle.words.proofs.Within.{within_both}
use Rattle.reach_order.proofs.Placing.{ready-kept}
use Rattle.reach_order.proofs.Queues.{read-lists, follow-begins, marks-within, marks-ready, marks-blank, marks-none}
use Rattle.reach_order.proofs.reaches_itself.Goals as goal

pub enqueue_all-m-requires : goal.enqueue_all-m-requires
enqueue_all-m-requires c = let p = c.requires in let e = c.clear.ensures in read-lists (marks-ready p.0 e) p.1 c.names_at.ensures (marks-none p.0 e)

pub follow-requires : goal.follow-requires
follow-requires c = let p = c.requires in let e = c.clear.ensures in let h = c.enqueue_all-m.ensures in (ready-kept (marks-ready p.0 e) h.grown.within, follow-begins (marks-ready p.0 e) p.1 c.names_at.ensures (marks-blank p.0 e) h)

pub returns : goal.returns
returns c = let p = c.requires in let f = c.follow.ensures in (f.0, within_both (marks-within p.0 c.clear.ensures) (within_both c.enqueue_all-m.ensures.grown.within f.1))
