-- One level of a path followed (document 02, Note 12: "In the new forest follow it as far as each step exists, and stop there"): where the child with
-- a number stands, by counts of trees, and what is asked and left by a level and by all.
use Rattle.std.specs.Prelude.{ℕ, suc, ◌-◌, ◌*◌, ◌≤◌, ◌<◌, ◌≡◌, cond, List, [], ◌∷◌, length, eqb, ltb, Option, Some}
use Rattle.std.specs.Prelude.{None}
use Rattle.words.specs.Number.{number}
use Rattle.words.specs.Words.{words_at}
use Rattle.record.specs.Record.{word_length}
use Rattle.rule.specs.declared.Rule.{Rule}
use Rattle.forest.specs.Expression.{Expression}
use Rattle.forest.specs.Forest.{forest}
use Rattle.forest.specs.Place.{Side, row_of_node, row_of_part, placed_forest}
use Rattle.forest.specs.Position.{located_of}
use Rattle.forest.specs.Reference.{Path, label_at}
use Rattle.forest.specs.Walk.{cell_length, cells_in, place_at}
use Rattle.work_rows.specs.Rows.{Within}
use Rattle.model.specs.Facts.{Facts}
use Rattle.model.specs.Run.{Node}
use Rattle.facts.specs.Facts.{row_count, In}
use Rattle.place_cells.specs.Cells.{most_cells, place_length, cursor_length}
use Rattle.letter_arrival.specs.declared.Standing.{Standing}
use Rattle.letter_moves.specs.Standing.{rules_kept, WalkedRows}
use Rattle.transfer_path.specs.Follow.{most_place, descended}
use Rattle.transfer_path.specs.Spot.{Spot, path_to, tops}
use Rattle.transfer_seek.specs.Seek.{NodeAt}
use Rattle.transfer_climb.specs.Climb.{meaning, CountedRows}
use Rattle.transfer_reach.specs.Reach.{Followable, RowAt, HoleAt}
use Rattle.transfer_follow.specs.declared.Branch.{Branch}

-- the tree behind i trees of rule c's row, if it has so many
unfoldable pub in_row : (ℕ → Expression) → ℕ → ℕ → ℕ → Option Branch
in_row E number c i = cond (ltb i (tops (E c))) (Some (Branch.Row number c i)) None

-- behind i trees of a part's L, hole and R
unfoldable pub in_part : (ℕ → Expression) → ℕ → ℕ → ℕ → Option Branch
in_part E b c i =
    cond (ltb i (tops (E b))) (Some (Branch.Row (row_of_part Side.left) b i))
    (cond (eqb i (tops (E b))) (Some Branch.Hole)
    (in_row E (row_of_part Side.right) c (i - tops (E b) - 1)))

-- under a node with that rule
unfoldable pub under_rule : (ℕ → Expression) → Rule → ℕ → Option Branch
under_rule E Rule.Empty i = None
under_rule E (Rule.Pair b c) i = None
under_rule E (Rule.Node a c) i = in_row E row_of_node c i
under_rule E (Rule.Fill b c) i = None
under_rule E (Rule.Part a b c) i = in_part E b c i
under_rule E (Rule.Join b c) i = None

-- among the roots, or under the node that is stood at
unfoldable pub branch_at : (ℕ → Expression) → Facts → Standing → ℕ → ℕ → Option Branch
branch_at E F at start i = cond (eqb at.used 0) (in_row E row_of_node start i) (under_rule E (F.rule at.rule) i)

-- the walker's node n is the one at path p of w's forest, or both are above it
pub data Found (w : Expression) : Path → Node → Type 0 where
  above : {r : ℕ} → Found w [] (r, [])
  node : {x : Spot} {n : Node} → NodeAt w x n → Found w (path_to x) n

-- what a branch says of the tree at spot x
unfoldable pub Leads : List ℕ → List ℕ → ℕ → ℕ → Spot → Option Branch → Type 0
Leads t s k start x (Some (Branch.Row number c i)) = RowAt t s k number c i start x
Leads t s k start x (Some Branch.Hole) = HoleAt t s k start x
Leads t s k start x None = label_at (located_of (meaning t start)) (path_to x) ≡ None

-- the node at the path y of rule start's forest is stood at
pub record FoundAt (t s : List ℕ) (at : Standing) (start : ℕ) (y : Path) : Type 0 where
  pub followable : Followable t s start
  pub inside : In t at.rule
  pub found : Found (meaning t start) y (at.rule, cells_in s at.used)

-- some node is stood at, and the number of the next level is told exactly
pub record Standable (t s : List ℕ) (at : Standing) (start i : ℕ) : Type 0 where
  pub path : Path
  pub stands : FoundAt t s at start path
  pub few : i < most_place

-- one level: the child behind i others of the node at path y is stood at, or is missing and nothing is written
pub record Stepped (t s s' : List ℕ) (start i : ℕ) (y : Path) (x : Option Standing) : Type 0 where
  pub within : Within cell_length (place_length (row_count t)) s s'
  pub there : (r : Standing) → x ≡ Some r → FoundAt t s' r start (suc i ∷ y)
  pub missing : x ≡ None → (label_at (located_of (meaning t start)) (suc i ∷ y) ≡ None) × (s' ≡ s)

-- the words of a path, each from 1
pub record Numbers (path : List ℕ) (levels : ℕ) : Type 0 where
  pub room : word_length * levels ≤ length path
  pub from_one : (j : ℕ) → j < levels → 0 < number word_length path (word_length * j)

-- where the path leads
abbrev pub goal : List ℕ → ℕ → List ℕ → ℕ → Path
goal t start path levels = descended (forest (rules_kept t) start) [] (words_at path 0 levels)

-- the cells of the node that the path leads to stand in the cursor
pub record Descended (t s s' : List ℕ) (start : ℕ) (path : List ℕ) (levels k : ℕ) : Type 0 where
  pub cells_are : cells_in s' k ≡ place_at (placed_forest (rules_kept t) start) (goal t start path levels)
  pub few : k ≤ most_cells (row_count t)
  pub within : Within cell_length (place_length (row_count t)) s s'

-- the rows of n rules with their trees, and enough of the cursor
pub record Ready (t s : List ℕ) (n start : ℕ) : Type 0 where
  pub rows : WalkedRows start t
  pub counted : CountedRows t
  pub count : row_count t ≡ n
  pub room : cursor_length n ≤ length s
