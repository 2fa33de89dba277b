-- Refusal 10 in document 01's own words: by letters, and not by a search for the node.
use Rattle.std.specs.Prelude.{ℕ, ◌⊎◌, ◌≢◌, List, []}
use Rattle.rule.specs.declared.Rule.{Rule}
use Rattle.forest.specs.Forest.{Forest, forest}
use Rattle.forest.specs.Place.{Cells, Placed, placed_forest}
use Rattle.forest.specs.Letter.{Letter}
use Rattle.forest.specs.Reference.{path_after}
use Rattle.forest.specs.Walk.{cells_in, used_cells, walked_rule, place_at}
use Rattle.demand.specs.Demand.{InOrder}

-- "no letters lead from a place above this forest to these used cells"
unfoldable pub Unreached : Forest ℕ → Forest Placed → Cells → Type 0
unfolding place_at path_after
Unreached g G cells = (cs : List Letter) → place_at G (path_after g cs []) ≢ cells

-- "10: no letters lead from a place above this forest to these used cells, or cell 0 has a nonzero later word", of which word 1 may name a
-- closed rule since document 02, Note 10
unfoldable pub Misplaced : List Rule → ℕ → List ℕ → Type 0
unfolding Unreached forest placed_forest walked_rule cells_in used_cells
Misplaced R start cursor =
    (¬ InOrder R start cursor)
    ⊎ Unreached (forest R (walked_rule start cursor)) (placed_forest R (walked_rule start cursor)) (cells_in cursor (used_cells cursor))
