-- Each arm of the match is a clause of the definition. Assumes nothing.
use mathlib.Core.Path.{sym}
use Rattle.model.specs.Stored.{is_node}
use Rattle.facts.proofs.Rules.{other-node}
use Rattle.place_check.proofs.is_node.Goals as goal

pub returns-in-Node : goal.returns-in-Node
unfolding is_node
returns-in-Node c = rw c.in-Node.is

pub returns-in-Part : goal.returns-in-Part
unfolding is_node
returns-in-Part c = rw c.in-Part.is

pub returns-in_default : goal.returns-in_default
returns-in_default c = sym (other-node c.args.rule c.args.kind c.in_default.not-Node c.in_default.not-Part)
