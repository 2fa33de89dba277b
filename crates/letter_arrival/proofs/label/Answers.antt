-- Each arm of the match is a case of `label`. Assumes nothing.
use mathlib.Core.Path.{sym, ap, ◌∙◌}
use Rattle.model.specs.Walk.{label}
use Rattle.facts.proofs.Rules.{other-label}
use Rattle.letter_arrival.proofs.label.Goals as goal

pub returns-in-Node : goal.returns-in-Node
unfolding label
returns-in-Node c = sym (ap label (sym c.rule_at.ensures ∙ c.in-Node.is))

pub returns-in-Part : goal.returns-in-Part
unfolding label
returns-in-Part c = sym (ap label (sym c.rule_at.ensures ∙ c.in-Part.is))

pub returns-in_default : goal.returns-in_default
returns-in_default c = sym (ap label (sym c.rule_at.ensures) ∙ other-label c.rule_at.result c.in_default.not-Node c.in_default.not-Part)
