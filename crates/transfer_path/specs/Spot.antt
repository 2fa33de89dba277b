-- Where a position stands among the nodes of its forest (document 02, Note 12: "the place among siblings, from 1, at each level from the
-- root"), counted from the trees beside it.
use Rattle.std.specs.Prelude.{ℕ, suc, ◌+◌, List, [], ◌∷◌, ◌++◌}
use Rattle.std.specs.Prelude.{Option, None, Some}
use Rattle.forest.specs.Expression.{Expression}
use Rattle.forest.specs.Place.{Side}
use Rattle.forest.specs.Reference.{Path}
use Rattle.forest.specs.Position.{Position, Located, part_at}

-- a spot: how many trees stand before it among its siblings, and the path of the node above
abbrev pub Spot : Type 0
Spot = ℕ × Path

-- the path of the tree at a spot
abbrev pub path_to : Spot → Path
path_to x = suc x.0 ∷ x.1

-- the trees of a closed expression; of one with a hole the nodes above the hole
unfoldable pub tops : Expression → ℕ
tops (Expression.empty r) = 0
tops (Expression.pair r b c) = tops b + tops c
tops (Expression.node r a c) = 1
tops (Expression.fill r b c) = 1
tops (Expression.part r a b c) = 1
tops (Expression.join r b c) = tops b + tops c

-- the spot of what stands in the hole of a spine at spot x
unfoldable pub through : Expression → Spot → Spot
through (Expression.empty r) x = x
through (Expression.pair r b c) x = x
through (Expression.node r a c) x = x
through (Expression.fill r b c) x = x
through (Expression.part r a b c) x = (tops b, path_to x)
through (Expression.join r b c) x = through c (through b x)

-- a tree that is opened at a part stands in the part's hole, else in a row
unfoldable pub opening_of : Option Located → Spot → Spot
opening_of None x = x
opening_of (Some y) x = through y.0 x

unfoldable pub opening : Position → Spot → Spot
opening z x = opening_of (part_at z) x

-- the spot of a position: of the first tree of a row, of the tree of a spine or of the part that is reached
unfoldable pub spot : Position → Spot
spot (Position.start e) = (0, [])
spot (Position.node_row r a c z) = (0, path_to (spot z))
spot (Position.part_row Side.left r a b c z) = (0, path_to (spot z))
spot (Position.part_row Side.right r a b c z) = (suc (tops b), path_to (spot z))
spot (Position.pair_side Side.left r b c z) = spot z
spot (Position.pair_side Side.right r b c z) = ((spot z).0 + tops b, (spot z).1)
spot (Position.node_spine r a c z) = opening z (spot z)
spot (Position.fill_spine r b c z) = opening z (spot z)
spot (Position.join_side Side.left r b c z) = spot z
spot (Position.join_side Side.right r b c z) = through b (spot z)

-- the parts of a spine, the outermost first: the trees before the hole of each
unfoldable pub ahead : Expression → List ℕ
ahead (Expression.empty r) = []
ahead (Expression.pair r b c) = []
ahead (Expression.node r a c) = []
ahead (Expression.fill r b c) = []
ahead (Expression.part r a b c) = tops b ∷ []
ahead (Expression.join r b c) = ahead b ++ ahead c

-- through parts one after another
unfoldable pub threaded : List ℕ → Spot → Spot
threaded [] x = x
threaded (i ∷ is) x = threaded is (i, path_to x)
