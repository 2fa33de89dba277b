-- The two tests are those of the definition, on what was read. Assumes nothing.
use Rattle.model.specs.Stored.{reaches}
use Rattle.facts.proofs.reaches.Goals as goal

pub returns : goal.returns
unfolding reaches
returns c = rw (c.level.ensures.0, c.depth_at-low.ensures, c.depth_at-high.ensures)
