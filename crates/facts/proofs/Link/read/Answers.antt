-- The four reads are those of `link_in`. Assumes nothing.
use Rattle.facts.specs.Facts.{link_in}
use Rattle.facts.proofs.Link.read.Goals as goal

pub returns : goal.returns
unfolding link_in
returns c = λ i. record { toward = c.word_at.ensures i; last = c.word_at-2.ensures i; depth = c.word_at-3.ensures i; jump = c.word_at-4.ensures i }
