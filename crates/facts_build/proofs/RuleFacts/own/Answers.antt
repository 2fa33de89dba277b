-- Each part is that of `own_facts`. Assumes nothing.
use Rattle.facts_build.specs.RuleFacts.{own_facts}
use Rattle.facts_build.proofs.RuleFacts.own.Goals as goal

pub returns : goal.returns
unfolding own_facts
returns c = λ i. record { representative = c.args.r; empty = c.args.empty; left = c.own.ensures i; right = c.own-2.ensures i }
