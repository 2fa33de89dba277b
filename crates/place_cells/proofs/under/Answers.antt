-- A left run is dropped, then the cell under it. Assumes nothing.
use Rattle.side.specs.Side.{side_of}
use mathlib.Core.Path.{ap, ◌∙◌}
use native.Mathlib.Omega.{arith}
use Rattle.model.specs.Model.{tail, under}
use Rattle.place_cells.proofs.under.Goals as goal

pub returns : goal.returns
unfolding side_of under
returns c = (omega (arith, c.tail.ensures.0, c.pop_run.ensures.0), c.tail.ensures.1 c.args.cursor.now ∙ ap tail c.pop_run.ensures.1)
