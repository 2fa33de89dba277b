-- Only a fill has an inner rule. Assumes nothing.
use mathlib.Core.Path.{sym, ap, ◌∙◌}
use Rattle.model.specs.Model.{inner_of}
use Rattle.facts.proofs.Rules.{other-inner}
use Rattle.place_check.proofs.inner_of.Goals as goal

pub returns-in_default : goal.returns-in_default
returns-in_default c = sym (ap inner_of (sym c.rule_at.ensures) ∙ other-inner c.rule_at.result c.in_default.not-Fill)

pub returns : goal.returns
unfolding inner_of
returns c = sym (ap inner_of (sym c.rule_at.ensures ∙ c.in-Fill.is))
