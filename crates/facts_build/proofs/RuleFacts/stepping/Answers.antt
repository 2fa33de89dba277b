-- Each part is that of `stepping_facts`. Assumes nothing.
use mathlib.Core.Bool.{false}
use Rattle.side.specs.Side.{side_of}
use Rattle.facts_build.specs.RuleFacts.{stepping_facts}
use Rattle.facts_build.proofs.RuleFacts.stepping.Goals as goal

pub from-requires : goal.from-requires
unfolding side_of
from-requires c = c.requires.left

pub from-requires-2 : goal.from-requires-2
unfolding side_of
from-requires-2 c = c.requires.right

pub returns : goal.returns
unfolding stepping_facts side_of
returns c = λ i. record { representative = c.args.r; empty = false; left = c.from.ensures i; right = c.from-2.ensures i }
