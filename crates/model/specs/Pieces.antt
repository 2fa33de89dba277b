-- The pieces of a move on a stack of cells (document 003, section 3, on the cells of document 01), by facts of rules alone: a
-- tree's root, a row entered, into the hole of a part and out of it.
use Rattle.std.specs.Prelude.{ℕ, Bool, true, false, cond, [], ◌∷◌, eqb}
use Rattle.std.specs.Prelude.{Option, None, Some, option_map}
use Rattle.rule.specs.declared.Rule.{Rule}
use Rattle.forest.specs.Place.{Cells, Side, cell_row, cell_spine, row_of_part}
use Rattle.forest.specs.Sides.{other, pick}
use Rattle.forest.specs.Position.{or_else}
use Rattle.model.specs.Facts.{Facts}
unfoldable pub use Rattle.model.specs.Run.{Node, along, one_above, tail, pop_run, run, shrunk, turned, beside_top, beside}

-- what a tree's spine begins with: the B of a fill, else the tree itself
unfoldable pub outer_of : Rule → ℕ → ℕ
outer_of Rule.Empty a = a
outer_of (Rule.Pair b c) a = a
outer_of (Rule.Node x c) a = a
outer_of (Rule.Fill b c) a = b
outer_of (Rule.Part x b c) a = a
outer_of (Rule.Join b c) a = a

unfoldable pub outer : Facts → ℕ → ℕ
unfolding outer_of
outer F a = outer_of (F.rule a) a

-- the C that a fill's last hole continues in
unfoldable pub inner_of : Rule → Option ℕ
inner_of Rule.Empty = None
inner_of (Rule.Pair b c) = None
inner_of (Rule.Node x c) = None
inner_of (Rule.Fill b c) = Some c
inner_of (Rule.Part x b c) = None
inner_of (Rule.Join b c) = None

-- the rule that a place stands at, read off its last cell
unfoldable pub standing : Facts → Cells → ℕ
standing F [] = 0
standing F (c ∷ cs) = cond (eqb c.0 cell_spine) (outer F c.1) c.2

-- the root of tree a, whose spine's cell goes on cs
unfoldable pub opened : Facts → ℕ → Cells → Node
opened F a cs = (F.last Side.left (outer F a), run F Side.left (outer F a) ((cell_spine, a, 0, 0) ∷ cs))

-- the root of the first (left) or last (right) tree of the row of rule a, opened on cs with number d
unfoldable pub enter : Facts → Side → ℕ → ℕ → Cells → Option Node
enter F s d a cs =
    cond (F.is_empty a) None
    (Some (opened F (F.last s (F.representative a)) (run F s (F.representative a) ((cell_row, d, F.representative a, 0) ∷ cs))))

-- the C that the spine opened on top continues in
unfoldable pub continuing : Facts → Cells → Option ℕ
continuing F [] = None
continuing F (c ∷ cs) = cond (eqb c.0 cell_spine) (inner_of (F.rule c.1)) None

-- the root of the tree in the hole of the part at cs: that of the part beside it on the right, else of the spine's C
unfoldable pub inward : Facts → Cells → Option Node
inward F cs = or_else (beside F Side.right cs) (option_map (λ (c : ℕ). opened F c cs) (continuing F (pop_run Side.right cs)))

-- the place of the tree whose first part, or node, is at cs
unfoldable pub under : Cells → Cells
under cs = tail (pop_run Side.left cs)

unfoldable pub is_part : Rule → Bool
is_part Rule.Empty = false
is_part (Rule.Pair b c) = false
is_part (Rule.Node x c) = false
is_part (Rule.Fill b c) = false
is_part (Rule.Part x b c) = true
is_part (Rule.Join b c) = false

-- the part at cs, where one stands there
unfoldable pub part_at : Facts → Cells → Option Node
part_at F cs = cond (is_part (F.rule (standing F cs))) (Some (standing F cs, cs)) None

-- the part in whose hole the tree, or the part, at cs stands: the one beside it on the left, else the one below the spine
unfoldable pub outward : Facts → Cells → Option Node
outward F cs = or_else (beside F Side.left cs) (part_at F (under cs))

-- the root on side s of the hole of a part with that rule at cs
unfoldable pub beside_hole : Facts → Side → Rule → Cells → Option Node
beside_hole F s Rule.Empty cs = None
beside_hole F s (Rule.Pair b c) cs = None
beside_hole F s (Rule.Node x c) cs = None
beside_hole F s (Rule.Fill b c) cs = None
beside_hole F s (Rule.Part x b c) cs = enter F (other s) (row_of_part s) (pick s b c) cs
beside_hole F s (Rule.Join b c) cs = None
