-- The three fields are the definitions' numbers. Assumes nothing.
use Rattle.plan.specs.Check.{count_of, start_of, distance_of}
use Rattle.plan.proofs.Trailer.read.Goals as goal

pub returns : goal.returns
unfolding count_of start_of distance_of
returns c = (c.read16.ensures, c.read16-2.ensures, c.read32.ensures)
