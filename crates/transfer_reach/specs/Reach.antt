-- The node with a number in a row (document 02, Note 12: "the place among siblings, from 1"), reached by counts of trees: what is asked of rows and
-- cursor, and what is left there.
use Rattle.std.specs.Prelude.{ℕ, ◌+◌, ◌≤◌, ◌<◌, ◌≡◌, List, ◌∷◌, length, Option, Some, None}
use Rattle.forest.specs.Place as place
use Rattle.forest.specs.Place.{Cells, cell_row, representative, step}
use Rattle.forest.specs.Letter.{Letter}
use Rattle.forest.specs.Position.{Position, Where, At, cells}
use Rattle.forest.specs.Expression.{Expression}
use Rattle.forest.specs.Sizes.{height}
use Rattle.forest.specs.Walk.{cell_length, cells_in}
use Rattle.work_rows.specs.Rows.{Within}
use Rattle.side.specs.declared.Side.{Side}
use Rattle.side.specs.Side.{side_of}
use Rattle.facts.specs.Facts.{row_count, In, facts_in}
use Rattle.place_cells.specs.Cells.{place_length, Lies}
use Rattle.letter_arrival.specs.declared.Standing.{Standing}
use Rattle.letter_moves.specs.Standing.{WalkedRows}
use Rattle.transfer_path.specs.Follow.{most_place}
use Rattle.transfer_path.specs.Spot.{Spot, path_to, tops, spot}
use Rattle.transfer_seek.specs.Seek.{Sought, TreeAt, NodeAt}
use Rattle.facts.specs.Closes.{Closes}
use Rattle.move_parts.specs.declared.Change.{Change}
use Rattle.move_parts.specs.Change.{change_node, Able}
use Rattle.transfer_climb.specs.Climb.{meaning, CountedRows}
use Rattle.transfer_reach.specs.declared.Turn.{Turn}

-- the rows of a plan's rules with their trees, of which the rule start is walked, and room for every place of its forest
pub record Followable (t s : List ℕ) (start : ℕ) : Type 0 where
  pub rows : WalkedRows start t
  pub counted : CountedRows t
  pub room : place_length (row_count t) ≤ length s

-- rule a on k cells, behind i of whose trees stands the tree at spot x
pub record Seeking (t s : List ℕ) (k a i start : ℕ) (x : Spot) : Type 0 where
  pub followable : Followable t s start
  pub some : 0 < k
  pub inside : In t a
  pub few : i < most_place
  pub sought : Sought (meaning t) (meaning t start) a i (cells_in s k) x

-- some tree is looked for
pub record Somewhere (t s : List ℕ) (k a i : ℕ) : Type 0 where
  pub start : ℕ
  pub spot : Spot
  pub seeking : Seeking t s k a i start spot

-- one step on to a rule, behind so many of whose trees the same tree stands, and which is lower
pub record StepOn (t : List ℕ) (a i : ℕ) (s : Side) (to rest : ℕ) : Type 0 where
  pub inside : In t to
  pub few : rest < most_place
  pub keeps : (w : Expression) (cs : Cells) (x : Spot) → Sought (meaning t) w a i cs x → Sought (meaning t) w to rest (step (side_of s) a to cs) x
  pub lower : (w : Expression) (cs : Cells) (x : Spot) → Sought (meaning t) w a i cs x → height (meaning t to) < height (meaning t a)

-- a step to a side, or the rule is the tree's
pub record Turns (t : List ℕ) (a i : ℕ) (y : Option Turn) : Type 0 where
  pub on : (x : Turn) → y ≡ Some x → StepOn t a i x.side x.to x.rest
  pub tree : y ≡ None → (start : ℕ) → WalkedRows start t → (cs : Cells) (x : Spot) → Sought (meaning t) (meaning t start) a i cs x
      → TreeAt (meaning t) (meaning t start) a cs x

-- the node at spot x of rule start's forest is stood at, and nothing is written outside its place
pub record Reached (t s s' : List ℕ) (start : ℕ) (x : Spot) (r : Standing) : Type 0 where
  pub node : NodeAt (meaning t start) x (r.rule, cells_in s' r.used)
  pub within : Within cell_length (place_length (row_count t)) s s'

-- the row of rule c, opened with a number on k cells, behind i of whose trees stands the tree at spot x
pub record RowAt (t s : List ℕ) (k number c i start : ℕ) (x : Spot) : Type 0 where
  pub followable : Followable t s start
  pub inside : In t c
  pub few : i < most_place
  pub position : Position
  pub stands : At (meaning t start) Where.row (meaning t c) position
  pub below : i < tops (meaning t c)
  pub cells_are : cells position ≡ (cell_row, number, representative (meaning t c), 0) ∷ cells_in s k
  pub spot_is : ((spot position).0 + i, (spot position).1) ≡ x

-- some tree of the row is looked for
pub record SomeRow (t s : List ℕ) (k number c i : ℕ) : Type 0 where
  pub start : ℕ
  pub spot : Spot
  pub row : RowAt t s k number c i start spot

-- the part that k cells lead to, in whose hole stands the tree at spot x
pub record HoleAt (t s : List ℕ) (k start : ℕ) (x : Spot) : Type 0 where
  pub followable : Followable t s start
  pub number : ℕ
  pub label : ℕ
  pub left : Expression
  pub right : Expression
  pub position : Position
  pub here : At (meaning t start) Where.here (Expression.part number label left right) position
  pub cells_are : cells position ≡ cells_in s k
  pub spot_is : (tops left, path_to (spot position)) ≡ x

-- some tree stands in the hole
pub record SomeHole (t s : List ℕ) (k : ℕ) : Type 0 where
  pub start : ℕ
  pub spot : Spot
  pub hole : HoleAt t s k start spot

-- the letter whose changes a hole's have
abbrev pub inward_letter : Letter
inward_letter = Letter.child place.Side.left

-- what the writing of a change asks
pub record Writable (t s : List ℕ) (x : Change) : Type 0 where
  pub closes : Closes t
  pub able : Able t s inward_letter x
  pub room : Lies s (length (change_node (facts_in t) inward_letter x s).1)
