-- Links to the openings of rows, which a walk keeps in the cursor behind the cells of a place: the link of a row's opening is the
-- number of the opening of the row below it, and the link of cell 0 that of the row which the place ends in. They let u leave a row
-- without looking back over it; what is stored of a place is cleared of them.
use Rattle.std.specs.Prelude.{ℕ, suc, ◌+◌, ◌-◌, ◌*◌, ◌≤◌, ◌<◌, ◌≡◌, cond, List, [], ◌∷◌, length, eqb}
use Rattle.words.specs.Number.{number}
use Rattle.words.specs.Put.{put}
use Rattle.words.specs.Within.{Within}
use Rattle.record.specs.Record.{word_length}
use Rattle.forest.specs.Place.{Cells, cell_row}
use Rattle.forest.specs.Walk.{cell_length, cells_in}
use Rattle.work_rows.specs.Rows.{row_length}

-- the number of the cell that opens the row which cells end in, 0 if there is none
unfoldable pub row_on : Cells → ℕ
row_on [] = 0
row_on (c ∷ cs) = cond (eqb c.0 cell_row) (suc (length cs)) (row_on cs)

-- where the link of cell i lies, for the rows t of a plan's rules, and that link
abbrev pub link_at : List ℕ → ℕ → ℕ
link_at t i = length t + (row_length - word_length) - word_length * i

unfoldable pub link : List ℕ → List ℕ → ℕ → ℕ
link t s i = number word_length s (link_at t i)

-- cells 0 to k lie before their links, and these in the cursor
pub record Linkable (t s : List ℕ) (k : ℕ) : Type 0 where
  pub apart : cell_length * (k + 1) ≤ link_at t k
  pub room : length t + row_length ≤ length s
  pub small : k < 65536

-- each row's opening has the link of the row below it
unfoldable pub RowLinks : List ℕ → List ℕ → Cells → Type 0
RowLinks t s [] = Unit {0}
RowLinks t s (c ∷ cs) = (c.0 ≡ cell_row → link t s (suc (length cs)) ≡ row_on cs) × RowLinks t s cs

-- the links of cells
pub record Linked (t s : List ℕ) (cs : Cells) : Type 0 where
  pub top : link t s 0 ≡ row_on cs
  pub rows : RowLinks t s cs

-- links are written, and no cell
pub record Relinked (t : List ℕ) (k : ℕ) (s s' : List ℕ) : Type 0 where
  pub cells : cells_in s' k ≡ cells_in s k
  pub within : Within (link_at t k) (length t + row_length) s s'

-- the links once cell i has opened a row
unfoldable pub opens_row : List ℕ → ℕ → List ℕ → List ℕ
opens_row t i s = put word_length (put word_length s (link_at t i) (link t s 0)) (link_at t 0) i
