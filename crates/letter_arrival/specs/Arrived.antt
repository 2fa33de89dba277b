-- What a letter that leads to a node comes to.
use Rattle.std.specs.Prelude.{ℕ, ◌+◌, ◌≤◌, ◌≡◌, List, length}
use Rattle.forest.specs.Letter.{Letter}
use Rattle.model.specs.Model.{Node}
use Rattle.model.specs.Walk.{label}
use Rattle.facts.specs.Facts.{row_count, In, facts_in}
use Rattle.facts.specs.Closes.{Closes}
use Rattle.forest.specs.Walk.{cell_length, cells_in}
use Rattle.work_rows.specs.Rows.{Within, row_length}
use Rattle.row_links.specs.Links.{Linkable, Linked}
use Rattle.place_cells.specs.Cells.{most_cells}
use Rattle.place_cells.specs.Changes.{Wrote}
use Rattle.move_parts.specs.declared.Change.{Change}
use Rattle.move_parts.specs.Change.{change_node, Able, keep_of}
use Rattle.letter_arrival.specs.declared.Landing.{Landing}
use Rattle.letter_arrival.specs.declared.Standing.{Standing}

-- from k cells with their links, of which some are kept, to n cells: there is room for these and for the links of all
pub record Settling (t s : List ℕ) (k keep n : ℕ) : Type 0 where
  pub linkable : Linkable t s (most_cells (row_count t))
  pub here : k ≤ most_cells (row_count t)
  pub there : n ≤ most_cells (row_count t)
  pub keeps : keep ≤ k
  pub linked : Linked t s (cells_in s k)

-- what the writing of a letter's change from k cells asks
pub record Arriving (t s : List ℕ) (k : ℕ) (l : Letter) (x : Change) : Type 0 where
  pub rows : Closes t
  pub able : Able t s l x
  pub rule : In t (change_node (facts_in t) l x s).0
  pub settles : Settling t s k (keep_of x) (length (change_node (facts_in t) l x s).1)

-- a walk stands at a node: its cells are written, and nothing past them
pub record Stood (x : Node) (s s' : List ℕ) (r : Standing) : Type 0 where
  pub there : r ≡ record { used = length x.1; rule = x.0 }
  pub wrote : Wrote x.1 s s'

-- a walk stands at a node and has its links: its cells are written, and nothing beyond what the rules need of the cursor
pub record Settled (t : List ℕ) (x : Node) (s s' : List ℕ) (r : Standing) : Type 0 where
  pub there : r ≡ record { used = length x.1; rule = x.0 }
  pub cells : cells_in s' (length x.1) ≡ x.1
  pub within : Within cell_length (length t + row_length) s s'
  pub linked : Linked t s' x.1

-- and its label is the answer
pub record Arrived (t : List ℕ) (x : Node) (s s' : List ℕ) (r : Landing) : Type 0 where
  pub settled : Settled t x s s' r.at
  pub answered : r.answer ≡ label ((facts_in t).rule x.0)
