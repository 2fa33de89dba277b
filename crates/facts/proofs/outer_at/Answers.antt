-- Only a fill has an outer rule. Assumes nothing.
use mathlib.Core.Path.{sym}
use Rattle.model.specs.Model.{outer}
use Rattle.facts.proofs.Rules.{other_outer}
use Rattle.facts.proofs.outer_at.Goals as goal

pub returns-in_default : goal.returns-in_default
unfolding outer
returns-in_default c = rw (← c.rule_at.ensures) (sym (other_outer c.rule_at.result c.args.a c.in_default.not-Fill))

pub returns : goal.returns
unfolding outer
returns c = rw (← c.rule_at.ensures, c.in-Fill.is)
