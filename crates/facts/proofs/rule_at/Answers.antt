-- The rule is the one of `facts_in`. Assumes nothing.
use mathlib.Core.Path.{sym, ◌∙◌}
use Rattle.facts.proofs.Words.{facts_in-rule}
use Rattle.facts.proofs.rule_at.Goals as goal

pub returns : goal.returns
returns c = let a = c.args in c.rule_at.ensures ∙ sym (facts_in-rule a.work.now a.r c.requires)
