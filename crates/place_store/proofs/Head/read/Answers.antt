-- Cell 0's four words. Assumes nothing.
use mathlib.Core.Path.{ap}
use Rattle.place_cells.specs.declared.Cell.{Cell as Words}
use Rattle.place_cells.specs.Cells.{words}
use Rattle.place_store.specs.Head.{head_of}
use Rattle.place_store.proofs.Head.read.Goals as goal

pub returns : goal.returns
returns c = ap (λ (y : Words). head_of (words y)) c.read-cell.ensures
