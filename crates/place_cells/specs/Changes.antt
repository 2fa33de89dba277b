-- Cells put on those that are kept.
use Rattle.std.specs.Prelude.{ℕ, ◌+◌, ◌*◌, ◌≡◌, List, ◌∷◌, length, Option, Some, None}
use Rattle.forest.specs.Place.{Cells}
use Rattle.forest.specs.Walk.{cell_length, cells_in}
use Rattle.work_rows.specs.Rows.{Within}
use Rattle.place_cells.specs.declared.Cell.{Cell as Words}
use Rattle.place_cells.specs.Cells.{words}

-- a cell on a stack, if there is one
unfoldable pub add : Option Words → Cells → Cells
add None cs = cs
add (Some c) cs = words c ∷ cs

-- the number of cells with one more, if there is one
unfoldable pub high : Option Words → ℕ → ℕ
high None k = k
high (Some c) k = k + 1

-- the cells cs stand in the cursor; cell 0 and the cells past them are as they were
pub record Wrote (cs : Cells) (s s' : List ℕ) : Type 0 where
  pub cells : cells_in s' (length cs) ≡ cs
  pub within : Within cell_length (cell_length * (length cs + 1)) s s'

-- cells 1 to k are then cs, and nothing past them has changed
abbrev pub Put : Cells → List ℕ → List ℕ → ℕ → Type 0
Put cs s s' k = (k ≡ length cs) × Wrote cs s s'
