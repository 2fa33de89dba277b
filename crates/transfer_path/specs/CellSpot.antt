-- The spot of a node read off its cells, from cell 1 up, by facts of rules and counts of trees.
use Rattle.std.specs.Prelude.{ℕ, zero, suc, ◌+◌, ◌-◌, cond, [], ◌∷◌, eqb}
use Rattle.rule.specs.declared.Rule.{Rule}
use Rattle.forest.specs.Expression.{Expression}
use Rattle.forest.specs.Place.{Cell, Cells, Side, cell_row, cell_spine, cell_run, row_of_part}
use Rattle.forest.specs.Reference.{Path}
use Rattle.model.specs.Facts.{Facts}
use Rattle.model.specs.Run.{along}
use Rattle.model.specs.Pieces.{standing}
use Rattle.transfer_path.specs.Spot.{Spot, path_to, tops, through}

-- the trees of a part's L
unfoldable pub left_tops : (ℕ → Expression) → Rule → ℕ
left_tops E Rule.Empty = 0
left_tops E (Rule.Pair b c) = 0
left_tops E (Rule.Node a c) = 0
left_tops E (Rule.Fill b c) = 0
left_tops E (Rule.Part a b c) = tops (E b)
left_tops E (Rule.Join b c) = 0

-- a row's first tree: the first of its forest, or under the node reached; before those of an R stand the trees of the L and the hole's
unfoldable pub row_before : (ℕ → Expression) → Rule → ℕ → ℕ
row_before E x d = cond (eqb d (row_of_part Side.right)) (suc (left_tops E x)) 0

unfoldable pub row_spot : Facts → (ℕ → Expression) → ℕ → Cells → Spot → Spot
row_spot F E d [] x = (0, [])
row_spot F E d (c ∷ cs) x = (row_before E (F.rule (standing F (c ∷ cs))) d, path_to x)

-- a spine opened where a rule stands: in the hole of a part, else where it is
unfoldable pub spine_spot : (ℕ → Expression) → Rule → Spot → Spot
spine_spot E Rule.Empty x = x
spine_spot E (Rule.Pair b c) x = x
spine_spot E (Rule.Node a c) x = x
spine_spot E (Rule.Fill b c) x = x
spine_spot E (Rule.Part a b c) x = (tops (E b), path_to x)
spine_spot E (Rule.Join b c) x = x

-- one right step: past the trees of a pair's B, through the parts of a join's B
unfoldable pub step_spot : (ℕ → Expression) → Rule → Spot → Spot
step_spot E Rule.Empty x = x
step_spot E (Rule.Pair b c) x = (x.0 + tops (E b), x.1)
step_spot E (Rule.Node a c) x = x
step_spot E (Rule.Fill b c) x = x
step_spot E (Rule.Part a b c) x = x
step_spot E (Rule.Join b c) x = through (E b) x

-- j right steps from rule a
unfoldable pub right_steps : Facts → (ℕ → Expression) → ℕ → ℕ → Spot → Spot
right_steps F E zero a x = x
right_steps F E (suc j) a x = step_spot E (F.rule (along F Side.right j a)) (right_steps F E j a x)

-- how many right steps a run from rule a to rule b has
unfoldable pub steps_between : Facts → ℕ → ℕ → ℕ
steps_between F a b = F.depth Side.right a - F.depth Side.right b

-- one more cell c on cells cs, whose spot is x; left steps stay at the first tree, or part
unfoldable pub cell_spot : Facts → (ℕ → Expression) → Cell → Cells → Spot → Spot
cell_spot F E c cs x =
    cond (eqb c.0 cell_row) (row_spot F E c.1 cs x)
    (cond (eqb c.0 cell_spine) (spine_spot E (F.rule (standing F cs)) x)
    (cond (eqb c.0 (cell_run Side.right)) (right_steps F E (steps_between F c.1 c.2) c.1 x)
    x))

unfoldable pub spot_in : Facts → (ℕ → Expression) → Cells → Spot
spot_in F E [] = (0, [])
spot_in F E (c ∷ cs) = cell_spot F E c cs (spot_in F E cs)

-- the path of the node with these cells
unfoldable pub path_in : Facts → (ℕ → Expression) → Cells → Path
path_in F E [] = []
path_in F E (c ∷ cs) = path_to (spot_in F E (c ∷ cs))
