-- The stored place of each node (document 01, "The stored place"). A place is a list of cells, the last cell first.
use Rattle.std.specs.Prelude.{ℕ, ◌-◌, Bool, true, false, cond, ◌&&◌, List, [], ◌∷◌, length, drop, eqb}
use Rattle.rule.specs.declared.Rule.{Rule}
use Rattle.forest.specs.Expression.{Expression, expression, rule_number}
use Rattle.forest.specs.Forest.{Forest, append}

-- a cell, written as document 01 writes it: (1, d, S, 0)
abbrev pub Cell : Type 0
Cell = ℕ × ℕ × ℕ × ℕ

abbrev pub Cells : Type 0
Cells = List Cell

-- the first word of each form of cell
abbrev pub cell_row : ℕ
cell_row = 1

abbrev pub cell_spine : ℕ
cell_spine = 2

-- left and right: steps, first and last, previous and next
pub data Side : Type 0 where
  left : Side
  right : Side

-- "(3, A, B, 0) is a longest run of one or more left steps ..; (4, A, B, 0) the same of right steps"
unfoldable pub cell_run : Side → ℕ
cell_run left = 3
cell_run right = 4

-- "d = 0: the start forest, or the C of a kind 2 node; 1: the L, 2: the R, of the kind 4 rule just reached"
abbrev pub row_of_node : ℕ
row_of_node = 0

unfoldable pub row_of_part : Side → ℕ
row_of_part left = 1
row_of_part right = 2

-- a closed rule without trees
unfoldable pub is_empty : Expression → Bool
is_empty (Expression.empty r) = true
is_empty (Expression.pair r b c) = is_empty b && is_empty c
is_empty (Expression.node r a c) = false
is_empty (Expression.fill r b c) = false
is_empty (Expression.part r a b c) = false
is_empty (Expression.join r b c) = false

-- the representative (document 01's stand-in): "a kind 1 rule with exactly one side empty has the stand-in of the other side;
-- each other non-empty rule is its own"
unfoldable pub representative : Expression → ℕ
unfolding is_empty
representative (Expression.empty r) = r
representative (Expression.pair r b c) = cond (is_empty b) (representative c) (cond (is_empty c) (representative b) r)
representative (Expression.node r a c) = r
representative (Expression.fill r b c) = r
representative (Expression.part r a b c) = r
representative (Expression.join r b c) = r

-- one step from rule a to rule b: a run of the same direction on top grows, so that runs are longest; else a run begins
unfoldable pub step : Side → ℕ → ℕ → Cells → Cells
unfolding cell_run
step s a b [] = (cell_run s, a, b, 0) ∷ []
step s a b (c ∷ cs) = cond (eqb c.0 (cell_run s)) ((c.0, c.1, b, c.3) ∷ cs) ((cell_run s, a, b, 0) ∷ c ∷ cs)

-- a node with its place
abbrev pub Placed : Type 0
Placed = ℕ × Cells

-- The forest of an expression, each node with its place. cs is the place so far; hole says what stands in the hole, given the
-- place of the node around it (closed expressions never ask).
--   "A row breaks its stand-in down through kind 1 rules to a tree (kind 2 or 3), taking stand-ins at each step."
--   "A spine of a kind 3 rule breaks its B down through kind 5 rules to a kind 4 rule; a kind 2 rule's spine is itself."
--   "(2, A, 0, 0) opens the spine of tree A: the tree just reached in a row, or the C of the kind 3 spine whose last part was
--   just reached."
unfoldable pub placed : Expression → Cells → (Cells → Forest Placed) → Forest Placed
unfolding is_empty representative step append row_of_part rule_number
placed (Expression.empty r) cs hole = Forest.none
placed (Expression.pair r b c) cs hole =
    cond (is_empty b) (placed c cs hole)
    (cond (is_empty c) (placed b cs hole)
    (append (placed b (step Side.left r (representative b) cs) hole) (placed c (step Side.right r (representative c) cs) hole)))
placed (Expression.node r a c) cs hole =
    Forest.tree (a, (cell_spine, r, 0, 0) ∷ cs)
    (placed c ((cell_row, row_of_node, representative c, 0) ∷ (cell_spine, r, 0, 0) ∷ cs) hole)
    Forest.none
placed (Expression.fill r b c) cs hole = placed b ((cell_spine, r, 0, 0) ∷ cs) (λ last. placed c last hole)
placed (Expression.part r a b c) cs hole =
    Forest.tree (a, cs)
    (append (placed b ((cell_row, row_of_part Side.left, representative b, 0) ∷ cs) hole)
    (append (hole cs)
    (placed c ((cell_row, row_of_part Side.right, representative c, 0) ∷ cs) hole)))
    Forest.none
placed (Expression.join r b c) cs hole =
    placed b (step Side.left r (rule_number b) cs) (λ around. placed c (step Side.right r (rule_number c) cs) hole)

-- The placed forest of a closed expression, and of rule r. Its first cell opens the row of the walked rule.
unfoldable pub placed_of : Expression → Forest Placed
unfolding placed representative
placed_of e = placed e ((cell_row, row_of_node, representative e, 0) ∷ []) (λ around. Forest.none)

unfoldable pub placed_forest : List Rule → ℕ → Forest Placed
unfolding placed_of expression
placed_forest R r = placed_of (expression R r)

-- cells 1 to m of a place
unfoldable pub first_cells : ℕ → Cells → Cells
first_cells m cs = drop (length cs - m) cs
