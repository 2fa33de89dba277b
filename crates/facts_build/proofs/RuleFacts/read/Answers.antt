-- Each part is that of `known_facts`. Assumes nothing.
use Rattle.side.specs.Side.{side_of}
use Rattle.facts_build.specs.RuleFacts.{known_facts}
use Rattle.facts_build.proofs.RuleFacts.read.Goals as goal

pub returns : goal.returns
unfolding known_facts side_of
returns c = λ i. record { representative = c.representative_at.ensures i; empty = c.is_empty_at.ensures i; left = c.read.ensures i; right = c.read-2.ensures i }
