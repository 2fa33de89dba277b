-- The four reads are those of `cell_at`. Assumes nothing.
use Rattle.forest.specs.Walk.{cell_at}
use Rattle.place_cells.proofs.Cell.read.Goals as goal

pub returns : goal.returns
unfolding cell_at
returns c = λ i. record { kind = c.read16.ensures i; one = c.read16-2.ensures i; two = c.read16-3.ensures i; three = c.read16-4.ensures i }
