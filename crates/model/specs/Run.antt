-- Runs on a stack of cells (document 000's runs within a row or spine, as document 01 stores them): growing, shrinking and
-- turning one. A place is a list of cells, the last cell first; a node is the number of its rule and its cells.
use Rattle.std.specs.Prelude.{ℕ, zero, suc, ◌-◌, cond, [], ◌∷◌, eqb, leb}
use Rattle.std.specs.Prelude.{Option, None, Some}
use Rattle.forest.specs.Place.{Cells, Side, cell_run, step}
use Rattle.forest.specs.Sides.{other}
use Rattle.model.specs.Facts.{Facts}

-- a node: its rule's number and its cells
abbrev pub Node : Type 0
Node = ℕ × Cells

-- j steps from rule a
unfoldable pub along : Facts → Side → ℕ → ℕ → ℕ
along F s zero a = a
along F s (suc j) a = F.toward s (along F s j a)

-- the last rule but one of the run from a to b
unfoldable pub one_above : Facts → Side → ℕ → ℕ → ℕ
one_above F s a b = along F s (F.depth s a - suc (F.depth s b)) a

-- a place without the last cell
unfoldable pub tail : Cells → Cells
tail [] = []
tail (c ∷ cs) = cs

-- a run of direction s on top is dropped whole
unfoldable pub pop_run : Side → Cells → Cells
pop_run s [] = []
pop_run s (c ∷ cs) = cond (eqb c.0 (cell_run s)) cs (c ∷ cs)

-- the longest run from rule a
unfoldable pub run : Facts → Side → ℕ → Cells → Cells
run F s a cs = cond (eqb (F.depth s a) 0) cs (step s a (F.last s a) cs)

-- the run on top one step shorter, gone if it had one step: its cell with word 2 changed
unfoldable pub shrunk : Facts → Side → Cells → Cells
shrunk F s [] = []
shrunk F s (c ∷ cs) =
    cond (leb (F.depth s c.1) (suc (F.depth s c.2))) cs ((c.0, c.1, one_above F s c.1 c.2, c.3) ∷ cs)

-- from rule v one step to side s, then the longest run the other way
unfoldable pub turned : Facts → Side → ℕ → Cells → Node
turned F s v cs = (F.last (other s) (F.toward s v), run F (other s) (F.toward s v) (step s v (F.toward s v) cs))

-- the next on side s within a row or spine, where no run of that direction is on top: the run on top is one step shorter,
-- then turns
unfoldable pub beside_top : Facts → Side → Cells → Option Node
beside_top F s [] = None
beside_top F s (c ∷ cs) =
    cond (eqb c.0 (cell_run (other s)))
    (Some (turned F s (one_above F (other s) c.1 c.2) (shrunk F (other s) (c ∷ cs))))
    None

-- the tree beside in a row, or the part beside in a spine
unfoldable pub beside : Facts → Side → Cells → Option Node
beside F s cs = beside_top F s (pop_run s cs)
