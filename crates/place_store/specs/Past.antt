-- The cursor with zeros past its used cells.
use Rattle.std.specs.Prelude.{ℕ, ◌+◌, ◌-◌, ◌*◌, List, ◌++◌, take, drop, replicate}
use Rattle.forest.specs.Walk.{cell_length}
use Rattle.place_cells.specs.Cells.{cursor_length}

-- zeros past cell k, in what n rules need of the cursor
unfoldable pub cleared_past : ℕ → ℕ → List ℕ → List ℕ
cleared_past k n s =
    take (cell_length * (k + 1)) s ++ (replicate (cursor_length n - cell_length * (k + 1)) 0 ++ drop (cursor_length n) s)
