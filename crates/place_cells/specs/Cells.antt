-- The code's cells as the definitions write them, and what the cursor holds of them.
use Rattle.std.specs.Prelude.{ℕ, ◌+◌, ◌*◌, ◌≤◌, cond, List, length, eqb, Option, Some, None}
use Rattle.words.specs.Put.{put}
use Rattle.record.specs.Record.{word_length}
use Rattle.forest.specs.Place.{Side, Cell, cell_run}
use Rattle.forest.specs.Walk.{cell_length, cursor_words}
use Rattle.model.specs.Facts.{Facts}
use Rattle.place_cells.specs.declared.Cell.{Cell as Words}

-- a cell's words, (kind, one, two, three), and back
abbrev pub words : Words → Cell
words c = (c.kind, c.one, c.two, c.three)

abbrev pub cell : Cell → Words
cell c = record { kind = c.0; one = c.1; two = c.2; three = c.3 }

-- bytes with these words in the cell with a number
unfoldable pub put_cell : List ℕ → ℕ → Words → List ℕ
put_cell s i c =
    put word_length
    (put word_length
    (put word_length
    (put word_length s (cell_length * i) c.kind)
    (cell_length * i + word_length) c.one)
    (cell_length * i + 2 * word_length) c.two)
    (cell_length * i + 3 * word_length) c.three

-- the longest run from a rule, as a cell of its own; none, if it has no step
unfoldable pub run_cell : Facts → Side → ℕ → Option Words
run_cell F s a = cond (eqb (F.depth s a) 0) None (Some (cell (cell_run s, a, F.last s a, 0)))

-- cells 1 to k lie in the cursor
abbrev pub Lies : List ℕ → ℕ → Type 0
Lies s k = cell_length * (k + 1) ≤ length s

-- the bytes of the cursor that n rules need
abbrev pub cursor_length : ℕ → ℕ
cursor_length n = word_length * cursor_words n

-- the most cells of a place of n rules: "k is at most 3 × n"; and the bytes of cell 0 and of these
abbrev pub most_cells : ℕ → ℕ
most_cells n = 3 * n

abbrev pub place_length : ℕ → ℕ
place_length n = cell_length * (most_cells n + 1)
