-- The word that a link keeps for one step. Assumes nothing.
use mathlib.Core.Path.{sym, ◌∙◌}
use Rattle.side.specs.Side.{side_of}
use Rattle.facts.specs.Facts.{link_in}
use Rattle.facts.proofs.Words.{facts_in-toward}
use Rattle.facts.proofs.toward_at.Goals as goal

pub returns : goal.returns
unfolding link_in
returns c = let a = c.args in c.word_at.ensures ∙ sym (facts_in-toward a.work.now a.r c.requires (side_of a.side))
