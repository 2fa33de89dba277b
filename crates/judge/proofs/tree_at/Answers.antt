-- The test is the definition, of the kind that was read. Assumes nothing.
use mathlib.Core.Path.{ap}
use Rattle.rule.specs.Rule.{tree}
use Rattle.judge.proofs.tree_at.Goals as goal

pub returns : goal.returns
unfolding tree
returns c = ap tree c.kind_at-kind.ensures
