-- The test of stored cells (document 01, "The stored place", and refusal 10 of walk): from cell 1 up, each cell must be one
-- of the forms there and fit the state that the cells below it lead to.
use Rattle.std.specs.Prelude.{ℕ, ◌-◌, Bool, true, false, cond, not, ◌&&◌, [], ◌∷◌, eqb, ltb}
use Rattle.std.specs.Prelude.{Option, None, Some}
use Rattle.rule.specs.declared.Rule.{Rule}
use Rattle.forest.specs.Place.{Cell, Cells, Side, cell_row, cell_spine, cell_run, row_of_node, row_of_part}
use Rattle.model.specs.Facts.{Facts}
use Rattle.model.specs.Model.{along, outer, inner_of}

-- the forms of a cell: (1, d, S, 0), (2, A, 0, 0), (3, A, B, 0) and (4, A, B, 0); or none of them
pub data Form : Type 0 where
  row : ℕ → ℕ → Form
  spine : ℕ → Form
  run : Side → ℕ → ℕ → Form
  formless : Form

unfoldable pub form_of : Cell → Form
form_of c =
    cond (eqb c.3 0)
    (cond (eqb c.0 cell_row) (row c.1 c.2)
    (cond (eqb c.0 cell_spine) (cond (eqb c.2 0) (spine c.1) formless)
    (cond (eqb c.0 (cell_run Side.left)) (run Side.left c.1 c.2)
    (cond (eqb c.0 (cell_run Side.right)) (run Side.right c.1 c.2)
    formless))))
    formless

-- The state after some cells: above the forest; or a rule, the kind of the last cell, and the C of the spine that opens if
-- the rule is its last part (a left run loses it, since a part further left is not the last); or wrong.
pub data State : Type 0 where
  above : State
  at : ℕ → ℕ → Option ℕ → State
  wrong : State

-- the rule whose row the number d opens under a node
unfoldable pub row_under : Rule → ℕ → ℕ → Option ℕ
row_under Rule.Empty k d = None
row_under (Rule.Pair b c) k d = None
row_under (Rule.Node x c) k d = cond (eqb k cell_spine && eqb d row_of_node) (Some c) None
row_under (Rule.Fill b c) k d = None
row_under (Rule.Part x b c) k d = cond (eqb d (row_of_part Side.left)) (Some b) (cond (eqb d (row_of_part Side.right)) (Some c) None)
row_under (Rule.Join b c) k d = None

-- the same in a state; r is the walked rule
unfoldable pub row_in : Facts → ℕ → State → ℕ → Option ℕ
row_in F r above d = cond (eqb d row_of_node) (Some r) None
row_in F r (at p k o) d = row_under (F.rule p) k d
row_in F r wrong d = None

unfoldable pub after_row : Facts → Option ℕ → ℕ → State
after_row F None v = wrong
after_row F (Some x) v = cond (eqb v (F.representative x)) (at v cell_row None) wrong

unfoldable pub is_that : Option ℕ → ℕ → Bool
is_that None a = false
is_that (Some c) a = eqb c a

-- the spine of tree a may open at rule p: the tree just reached in a row, or what the spine's last part continues in
unfoldable pub spine_at : Rule → ℕ → ℕ → Option ℕ → ℕ → Bool
spine_at Rule.Empty p k o a = false
spine_at (Rule.Pair b c) p k o a = false
spine_at (Rule.Node x c) p k o a = not (eqb k cell_spine) && eqb p a
spine_at (Rule.Fill b c) p k o a = not (eqb k cell_spine) && eqb p a
spine_at (Rule.Part x b c) p k o a = is_that o a
spine_at (Rule.Join b c) p k o a = false

unfoldable pub spine_in : Facts → State → ℕ → Bool
spine_in F above a = false
spine_in F (at p k o) a = spine_at (F.rule p) p k o a
spine_in F wrong a = false

-- b is reached from a by one or more steps of side s
unfoldable pub reaches : Facts → Side → ℕ → ℕ → Bool
reaches F s a b = ltb (F.depth s b) (F.depth s a) && eqb (along F s (F.depth s a - F.depth s b) a) b

unfoldable pub kept_by : Side → Option ℕ → Option ℕ
kept_by Side.left o = None
kept_by Side.right o = o

-- a run from the rule just reached, after no run of its direction
unfoldable pub after_run : Facts → State → Side → ℕ → ℕ → State
after_run F above s a b = wrong
after_run F (at p k o) s a b = cond (not (eqb k (cell_run s)) && eqb p a && reaches F s a b) (at b (cell_run s) (kept_by s o)) wrong
after_run F wrong s a b = wrong

unfoldable pub next : Facts → ℕ → State → Form → State
next F r st (row d v) = after_row F (row_in F r st d) v
next F r st (spine a) = cond (spine_in F st a) (at (outer F a) cell_spine (inner_of (F.rule a))) wrong
next F r st (run s a b) = after_run F st s a b
next F r st formless = wrong

-- the state after the cells of a place, the last cell first
unfoldable pub state_after : Facts → ℕ → Cells → State
state_after F r [] = above
state_after F r (c ∷ cs) = next F r (state_after F r cs) (form_of c)

-- the same on the cells as they are stored, cell 1 first
unfoldable pub state_from : Facts → ℕ → State → Cells → State
state_from F r st [] = st
state_from F r st (c ∷ cs) = state_from F r (next F r st (form_of c)) cs

-- "The node is the one reached at the end, and the last opened cell is a spine."
unfoldable pub is_node : Rule → ℕ → Bool
is_node Rule.Empty k = false
is_node (Rule.Pair b c) k = false
is_node (Rule.Node x c) k = eqb k cell_spine
is_node (Rule.Fill b c) k = false
is_node (Rule.Part x b c) k = true
is_node (Rule.Join b c) k = false

unfoldable pub ends_well : Facts → State → Bool
ends_well F above = false
ends_well F (at p k o) = is_node (F.rule p) k
ends_well F wrong = false

-- these are the cells of a node of rule r's forest
unfoldable pub accepts : Facts → ℕ → Cells → Bool
accepts F r cs = ends_well F (state_after F r cs)
