-- What is known is the row's word. Assumes nothing.
use mathlib.Core.Path.{sym, ◌∙◌}
use Rattle.facts.proofs.Words.{facts_in-representative}
use Rattle.facts.proofs.representative_at.Goals as goal

pub returns : goal.returns
returns c = let a = c.args in c.field16.ensures ∙ sym (facts_in-representative a.work.now a.r c.requires)
