-- The walker on a stack of cells (document 003, section 3, on the cells of document 01): every move by facts of rules alone.
use Rattle.std.specs.Prelude.{ℕ, cond, [], ◌∷◌, eqb}
use Rattle.std.specs.Prelude.{Option, None, Some}
use Rattle.rule.specs.declared.Rule.{Rule}
use Rattle.forest.specs.Place.{Cells, Side, cell_row, row_of_node, row_of_part}
use Rattle.forest.specs.Sides.{pick}
use Rattle.forest.specs.Position.{or_else}
use Rattle.model.specs.Facts.{Facts}
unfoldable pub use Rattle.model.specs.Run.{Node, along, one_above, tail, pop_run, run, shrunk, turned, beside_top, beside}
unfoldable pub use Rattle.model.specs.Pieces.{outer_of, outer, inner_of, standing, opened, enter, continuing, inward, under}
unfoldable pub use Rattle.model.specs.Pieces.{is_part, part_at, outward, beside_hole}
unfoldable pub use Rattle.model.specs.Neighbour.{first_that, sibling_cases}

-- the first (left) or last (right) child of a node with that rule at cs
unfoldable pub child_of : Facts → Side → Rule → Cells → Option Node
child_of F s Rule.Empty cs = None
child_of F s (Rule.Pair b c) cs = None
child_of F s (Rule.Node x c) cs = enter F s row_of_node c cs
child_of F s (Rule.Fill b c) cs = None
child_of F s (Rule.Part x b c) cs = or_else (enter F s (row_of_part s) (pick s b c) cs) (inward F cs)
child_of F s (Rule.Join b c) cs = None

unfoldable pub child : Facts → Side → Node → Option Node
child F s x = child_of F s (F.rule x.0) x.1

-- the sibling on side s of a node: the first case of document 003's function → (←, for the left) whose condition holds, nowhere
-- where none does
unfoldable pub sibling : Facts → Side → Node → Option Node
sibling F s x = first_that (sibling_cases F s x)

-- the cells below the opening cell of the row on top
unfoldable pub below_row : Cells → Cells
below_row [] = []
below_row (c ∷ cs) = cond (eqb c.0 cell_row) cs (below_row cs)

-- the node at cs, none above the forest
unfoldable pub node_at : Facts → Cells → Option Node
node_at F [] = None
node_at F (c ∷ cs) = Some (standing F (c ∷ cs), c ∷ cs)

-- the parent of the node at cs: the part in whose hole it stands, else the node over its row
unfoldable pub parent : Facts → Node → Option Node
parent F x = or_else (outward F x.1) (node_at F (below_row (under x.1)))

-- the root of the first (left) or last (right) tree of rule r's forest
unfoldable pub root : Facts → Side → ℕ → Option Node
root F s r = enter F s row_of_node r []
