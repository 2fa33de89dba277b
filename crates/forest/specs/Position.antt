-- Positions: zippers into an expression, one for each node of its forest (document 003's node representations), their
-- neighbours over a side, and their cells. A row's and a spine's crumbs lie over the position that they were opened at.
use Rattle.std.specs.Prelude.{ℕ, ◌≡◌, true, false, cond, [], ◌∷◌}
use Rattle.std.specs.Prelude.{Option, None, Some}
use Rattle.forest.specs.Expression.{Expression, rule_number}
use Rattle.forest.specs.Forest.{Forest, append}
use Rattle.forest.specs.Reference.{Path, label_at}
use Rattle.forest.specs.Place.{Cells, Side, cell_row, cell_spine, row_of_node, row_of_part, is_empty, representative, step}
use Rattle.forest.specs.Sides.{other, pick}

-- the first of two nodes that there is
unfoldable pub or_else : {A : Type 0} → Option A → Option A → Option A
or_else None y = y
or_else (Some x) y = Some x

pub data Position : Type 0 where
  start : Expression → Position
  node_row : ℕ → ℕ → Expression → Position → Position
  part_row : Side → ℕ → ℕ → Expression → Expression → Position → Position
  pair_side : Side → ℕ → Expression → Expression → Position → Position
  node_spine : ℕ → ℕ → Expression → Position → Position
  fill_spine : ℕ → Expression → Expression → Position → Position
  join_side : Side → ℕ → Expression → Expression → Position → Position

-- the cells of a position
unfoldable pub cells : Position → Cells
unfolding representative row_of_part pick step rule_number
cells (start e) = (cell_row, row_of_node, representative e, 0) ∷ []
cells (node_row r a c z) = (cell_row, row_of_node, representative c, 0) ∷ cells z
cells (part_row s r a b c z) = (cell_row, row_of_part s, representative (pick s b c), 0) ∷ cells z
cells (pair_side s r b c z) = step s r (representative (pick s b c)) (cells z)
cells (node_spine r a c z) = (cell_spine, r, 0, 0) ∷ cells z
cells (fill_spine r b c z) = (cell_spine, r, 0, 0) ∷ cells z
cells (join_side s r b c z) = step s r (rule_number (pick s b c)) (cells z)

-- a node: its expression (a node or a part) and its position
abbrev pub Located : Type 0
Located = Expression × Position

-- its label
unfoldable pub label_of : Expression → ℕ
label_of (Expression.empty r) = 0
label_of (Expression.pair r b c) = 0
label_of (Expression.node r a c) = a
label_of (Expression.fill r b c) = 0
label_of (Expression.part r a b c) = a
label_of (Expression.join r b c) = 0

-- the placed forest once more, each node with its position in place of its cells
unfoldable pub located : Expression → Position → (Position → Forest Located) → Forest Located
unfolding is_empty append
located (Expression.empty r) z hole = Forest.none
located (Expression.pair r b c) z hole =
    cond (is_empty b) (located c z hole)
    (cond (is_empty c) (located b z hole)
    (append (located b (pair_side Side.left r b c z) hole) (located c (pair_side Side.right r b c z) hole)))
located (Expression.node r a c) z hole =
    Forest.tree (Expression.node r a c, node_spine r a c z) (located c (node_row r a c (node_spine r a c z)) hole) Forest.none
located (Expression.fill r b c) z hole = located b (fill_spine r b c z) (λ last. located c last hole)
located (Expression.part r a b c) z hole =
    Forest.tree (Expression.part r a b c, z)
    (append (located b (part_row Side.left r a b c z) hole) (append (hole z) (located c (part_row Side.right r a b c z) hole)))
    Forest.none
located (Expression.join r b c) z hole =
    located b (join_side Side.left r b c z) (λ around. located c (join_side Side.right r b c z) hole)

unfoldable pub located_of : Expression → Forest Located
unfolding located
located_of e = located e (start e) (λ around. Forest.none)

-- the root of the tree, or the first part of the spine, e at z
unfoldable pub opened : Expression → Position → Located
opened (Expression.empty r) z = (Expression.empty r, z)
opened (Expression.pair r b c) z = (Expression.pair r b c, z)
opened (Expression.node r a c) z = (Expression.node r a c, node_spine r a c z)
opened (Expression.fill r b c) z = opened b (fill_spine r b c z)
opened (Expression.part r a b c) z = (Expression.part r a b c, z)
opened (Expression.join r b c) z = opened b (join_side Side.left r b c z)

-- the last part of the spine e at z
unfoldable pub last_part : Expression → Position → Located
last_part (Expression.empty r) z = (Expression.empty r, z)
last_part (Expression.pair r b c) z = (Expression.pair r b c, z)
last_part (Expression.node r a c) z = (Expression.node r a c, z)
last_part (Expression.fill r b c) z = (Expression.fill r b c, z)
last_part (Expression.part r a b c) z = (Expression.part r a b c, z)
last_part (Expression.join r b c) z = last_part c (join_side Side.right r b c z)

-- the root of the first (left) or last (right) tree of the row e at z
unfoldable pub enter : Side → Expression → Position → Option Located
unfolding is_empty pick opened
enter s (Expression.empty r) z = None
enter s (Expression.pair r b c) z =
    cond (is_empty b) (enter s c z)
    (cond (is_empty c) (enter s b z)
    (pick s (enter s b (pair_side Side.left r b c z)) (enter s c (pair_side Side.right r b c z))))
enter s (Expression.node r a c) z = Some (opened (Expression.node r a c) z)
enter s (Expression.fill r b c) z = Some (opened (Expression.fill r b c) z)
enter s (Expression.part r a b c) z = Some (opened (Expression.part r a b c) z)
enter s (Expression.join r b c) z = Some (opened (Expression.join r b c) z)

-- the root of the tree in the hole of the part at p, whose spine's crumbs are z's
unfoldable pub inward : Position → Position → Option Located
unfolding opened
inward p (start e) = None
inward p (node_row r a c z) = None
inward p (part_row s r a b c z) = None
inward p (pair_side s r b c z) = None
inward p (node_spine r a c z) = None
inward p (fill_spine r b c z) = Some (opened c p)
inward p (join_side Side.left r b c z) = Some (opened c (join_side Side.right r b c z))
inward p (join_side Side.right r b c z) = inward p z

-- the part at z, if z is a part's position and no row's
unfoldable pub part_at : Position → Option Located
unfolding pick
part_at (start e) = None
part_at (node_row r a c z) = None
part_at (part_row s r a b c z) = None
part_at (pair_side s r b c z) = None
part_at (node_spine r a c z) = None
part_at (fill_spine r b c z) = Some (b, fill_spine r b c z)
part_at (join_side s r b c z) = Some (pick s b c, join_side s r b c z)

-- the part in whose hole the tree, or the part, at z stands
unfoldable pub outward : Position → Option Located
unfolding last_part part_at
outward (start e) = None
outward (node_row r a c z) = None
outward (part_row s r a b c z) = None
outward (pair_side s r b c z) = None
outward (node_spine r a c z) = part_at z
outward (fill_spine r b c z) = part_at z
outward (join_side Side.left r b c z) = outward z
outward (join_side Side.right r b c z) = Some (last_part b (join_side Side.left r b c z))

-- the row position at which the tree with a node at z was opened
unfoldable pub row_of : Position → Position
row_of (start e) = start e
row_of (node_row r a c z) = node_row r a c z
row_of (part_row s r a b c z) = part_row s r a b c z
row_of (pair_side s r b c z) = pair_side s r b c z
row_of (node_spine r a c z) = z
row_of (fill_spine r b c z) = z
row_of (join_side s r b c z) = row_of z

-- the root of the tree beside the one at row position z, on side s: in the row, or in the hole that the row ends at
unfoldable pub leave : Side → Position → Option Located
unfolding enter inward
leave s (start e) = None
leave s (node_row r a c z) = None
leave Side.left (part_row Side.left r a b c z) = None
leave Side.left (part_row Side.right r a b c z) = inward z z
leave Side.right (part_row Side.left r a b c z) = inward z z
leave Side.right (part_row Side.right r a b c z) = None
leave Side.left (pair_side Side.left r b c z) = leave Side.left z
leave Side.left (pair_side Side.right r b c z) = enter Side.right b (pair_side Side.left r b c z)
leave Side.right (pair_side Side.left r b c z) = enter Side.left c (pair_side Side.right r b c z)
leave Side.right (pair_side Side.right r b c z) = leave Side.right z
leave s (node_spine r a c z) = None
leave s (fill_spine r b c z) = None
leave s (join_side t r b c z) = None

-- the node over whose row position z lies
unfoldable pub row_parent : Position → Option Located
row_parent (start e) = None
row_parent (node_row r a c z) = Some (Expression.node r a c, z)
row_parent (part_row s r a b c z) = Some (Expression.part r a b c, z)
row_parent (pair_side s r b c z) = row_parent z
row_parent (node_spine r a c z) = None
row_parent (fill_spine r b c z) = None
row_parent (join_side s r b c z) = None

-- the first (left) or last (right) child of the node e at z
unfoldable pub child : Side → Expression → Position → Option Located
unfolding enter inward pick or_else
child s (Expression.empty r) z = None
child s (Expression.pair r b c) z = None
child s (Expression.node r a c) z = enter s c (node_row r a c z)
child s (Expression.fill r b c) z = None
child s (Expression.part r a b c) z = or_else (enter s (pick s b c) (part_row s r a b c z)) (inward z z)
child s (Expression.join r b c) z = None

-- the root on side s of the hole of a part e at z: the end of its L or R that is next to the hole
unfoldable pub beside_hole : Side → Expression → Position → Option Located
unfolding enter pick other
beside_hole s (Expression.empty r) z = None
beside_hole s (Expression.pair r b c) z = None
beside_hole s (Expression.node r a c) z = None
beside_hole s (Expression.fill r b c) z = None
beside_hole s (Expression.part r a b c) z = enter (other s) (pick s b c) (part_row s r a b c z)
beside_hole s (Expression.join r b c) z = None

-- the sibling on side s of the node at z: beside the hole that it stands in, else beside it in its row
sibling_from : Side → Option Located → Position → Option Located
unfolding beside_hole leave
sibling_from s None z = leave s z
sibling_from s (Some (e, y)) z = beside_hole s e y

unfoldable pub sibling : Side → Position → Option Located
unfolding sibling_from outward row_of
sibling s z = sibling_from s (outward z) (row_of z)

-- the parent of the node at z: the part in whose hole it stands, else the node over its row
unfoldable pub parent : Position → Option Located
unfolding or_else outward row_parent row_of
parent z = or_else (outward z) (row_parent (row_of z))

-- the C that still has to be opened when the part at z is its spine's last
unfoldable pub continues : Position → Option Expression
continues (start e) = None
continues (node_row r a c z) = None
continues (part_row s r a b c z) = None
continues (pair_side s r b c z) = None
continues (node_spine r a c z) = None
continues (fill_spine r b c z) = Some c
continues (join_side Side.left r b c z) = None
continues (join_side Side.right r b c z) = continues z

-- what may stand at a position: an expression in a row; a tree to be opened there; an expression in a spine; a node
pub data Where : Type 0 where
  row : Where
  tree : Where
  spine : Where
  here : Where

-- z is a position in the expression w, and e stands there
pub data At (w : Expression) : Where → Expression → Position → Type 0 where
  start : At w Where.row w (Position.start w)
  side : {r : ℕ} {b c : Expression} {z : Position} (s : Side) → At w Where.row (Expression.pair r b c) z → is_empty b ≡ false → is_empty c ≡ false → At w Where.row (pick s b c) (Position.pair_side s r b c z)
  only_right : {r : ℕ} {b c : Expression} {z : Position} → At w Where.row (Expression.pair r b c) z → is_empty b ≡ true → At w Where.row c z
  only_left : {r : ℕ} {b c : Expression} {z : Position} → At w Where.row (Expression.pair r b c) z → is_empty b ≡ false → is_empty c ≡ true → At w Where.row b z
  tree_node : {r a : ℕ} {c : Expression} {z : Position} → At w Where.row (Expression.node r a c) z → At w Where.tree (Expression.node r a c) z
  tree_fill : {r : ℕ} {b c : Expression} {z : Position} → At w Where.row (Expression.fill r b c) z → At w Where.tree (Expression.fill r b c) z
  node : {r a : ℕ} {c : Expression} {z : Position} → At w Where.tree (Expression.node r a c) z → At w Where.here (Expression.node r a c) (Position.node_spine r a c z)
  under : {r a : ℕ} {c : Expression} {z : Position} → At w Where.here (Expression.node r a c) z → At w Where.row c (Position.node_row r a c z)
  fill : {r : ℕ} {b c : Expression} {z : Position} → At w Where.tree (Expression.fill r b c) z → At w Where.spine b (Position.fill_spine r b c z)
  join : {r : ℕ} {b c : Expression} {z : Position} (s : Side) → At w Where.spine (Expression.join r b c) z → At w Where.spine (pick s b c) (Position.join_side s r b c z)
  part : {r a : ℕ} {b c : Expression} {z : Position} → At w Where.spine (Expression.part r a b c) z → At w Where.here (Expression.part r a b c) z
  arm : {r a : ℕ} {b c : Expression} {z : Position} (s : Side) → At w Where.here (Expression.part r a b c) z → At w Where.row (pick s b c) (Position.part_row s r a b c z)
  hole : {r a : ℕ} {b c e : Expression} {z : Position} → At w Where.here (Expression.part r a b c) z → continues z ≡ Some e → At w Where.tree e z

-- a path above the forest, or of a node
pub data Named {A : Type 0} (g : Forest A) : Path → Type 0 where
  above : Named g []
  node : {p : Path} {a : A} → label_at g p ≡ Some a → Named g p
