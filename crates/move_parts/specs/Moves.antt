-- What a move decides, and what it asks of the table and the cursor.
use Rattle.std.specs.Prelude.{ℕ, ◌<◌, ◌≡◌, List, [], ◌∷◌}
use Rattle.std.specs.Prelude.{Option, None, Some}
use Rattle.forest.specs.Place.{Cell, Cells, Side, cell_row, cell_run}
use Rattle.forest.specs.Sides.{other}
use Rattle.forest.specs.Walk.{cell_at, cells_in}
use Rattle.model.specs.Model.{Node, one_above, beside_top}
use Rattle.facts.specs.Facts.{In, facts_in, Climbs}
use Rattle.facts.specs.Closes.{Closes}
use Rattle.place_cells.specs.Cells.{Lies}

-- P holds of every cell
unfoldable pub Each : (Cell → Type 0) → Cells → Type 0
Each P [] = Unit {0}
Each P (c ∷ cs) = P c × Each P cs

-- the rules in a cell have P: word 2, and word 1 unless it is a row's number
pub record Fits (P : ℕ → Type 0) (c : Cell) : Type 0 where
  pub one : (c.0 ≡ cell_row → ⊥) → P c.1
  pub two : P c.2

-- P holds of a node: of its rule and of the rules in its cells
abbrev pub node_has : (ℕ → Type 0) → Node → Type 0
node_has P x = P x.0 × Each (Fits P) x.1

-- of a node, if there is one
unfoldable pub Kept : (ℕ → Type 0) → Option Node → Type 0
Kept P None = Unit {0}
Kept P (Some x) = node_has P x

-- the table closes and can be climbed, and cells 1 to k lie in the cursor and name only rules that have rows
pub record Held (t s : List ℕ) (k : ℕ) : Type 0 where
  pub rows : Closes t
  pub climbs : Climbs t
  pub lies : Lies s k
  pub cells : Each (Fits (In t)) (cells_in s k)

-- the rule above the last of the run on top, which is to the other side than s
abbrev pub above_top : List ℕ → List ℕ → ℕ → Side → ℕ
above_top t s k side = one_above (facts_in t) (other side) (cell_at s k).1 (cell_at s k).2

-- a run to the other side than s is on top
pub record Turns (t s : List ℕ) (k : ℕ) (side : Side) : Type 0 where
  pub held : Held t s k
  pub some : 0 < k
  pub kind : (cell_at s k).0 ≡ cell_run (other side)

-- and v is the rule above its last
abbrev pub Turning : List ℕ → List ℕ → ℕ → Side → ℕ → Type 0
Turning t s k side v = Turns t s k side × (v ≡ above_top t s k side)

-- what lies beside on a side, where no run to that side is on top: the run on top turns at the rule above its last, or nothing does
pub record Turnable (t s : List ℕ) (k : ℕ) (side : Side) (r : Option ℕ) : Type 0 where
  pub turns : (v : ℕ) → r ≡ Some v → Turning t s k side v
  pub off : r ≡ None → beside_top (facts_in t) side (cells_in s k) ≡ None
