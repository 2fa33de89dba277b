-- The loop's invariant: the links are those of the first i cells. Assumes nothing.
use Rattle.forest.specs.Walk.{cells_in}
use Rattle.row_links.specs.Links.{Linkable, Linked, Relinked}
use Rattle.row_links.proofs.fill.Given as goal

abbrev pub invariant-loop-i : goal.invariant-loop-i
invariant-loop-i l = Linkable l.rows l.cursor l.k × Linked l.rows l.cursor (cells_in l.cursor l.i) × Relinked l.rows l.k l.initial.cursor l.cursor
