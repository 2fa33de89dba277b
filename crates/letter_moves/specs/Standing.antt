-- What holds while letters run: the table is that of a sound plan's rules, and the place is that of a node of the walked rule's
-- forest, or above it. What a letter does, as the model has it.
use Rattle.std.specs.Prelude.{ℕ, ◌+◌, ◌≤◌, ◌≡◌, List, length}
use Rattle.std.specs.Prelude.{Option, None}
use Rattle.rule.specs.declared.Rule.{Rule}
use Rattle.rule.specs.Sound.{Sound, Closed}
use Rattle.forest.specs.Expression.{expression}
use Rattle.forest.specs.Letter.{Letter}
use Rattle.forest.specs.Walk.{cell_length, cells_in, answer_word}
use Rattle.forest.specs.Position.{Located}
use Rattle.model.specs.Facts.{facts_of}
use Rattle.model.specs.Model.{Node}
use Rattle.model.specs.Walk.{answer, move, moved}
use Rattle.model.specs.Same.{Same}
use Rattle.work_rows.specs.Rows.{Within, row_length, first_rules}
use Rattle.row_links.specs.Links.{Linkable, Linked}
use Rattle.facts.specs.Facts.{row_count, facts_in, Climbs}
use Rattle.letter_arrival.specs.declared.Landing.{Landing}
use Rattle.place_cells.specs.Cells.{most_cells, place_length}

-- a node on cells that is the place of a node of rule r's forest, or above it
pub record Valid (R : List Rule) (r : ℕ) (n : Node) : Type 0 where
  pub position : Option Located
  pub same : Same (expression R r) position n

-- the rules that a table keeps
abbrev pub rules_kept : List ℕ → List Rule
rules_kept t = first_rules t (row_count t)

-- the table of a sound plan's rules, of which the closed rule r is walked
pub record WalkedRows (r : ℕ) (t : List ℕ) : Type 0 where
  pub rank : ℕ → ℕ
  pub sound : Sound (rules_kept t) rank
  pub closed : Closed (rules_kept t) r
  pub facts_are : facts_in t ≡ facts_of (rules_kept t)
  pub climbs : Climbs t

-- k cells of the cursor and the rule p are a place of rule r's forest
pub record Placed (r : ℕ) (t s : List ℕ) (k p : ℕ) : Type 0 where
  pub rows : WalkedRows r t
  pub room : place_length (row_count t) ≤ length s
  pub valid : Valid (rules_kept t) r (p, cells_in s k)

-- and have their links behind them, with room for those of every place
pub record Stands (r : ℕ) (t s : List ℕ) (k p : ℕ) : Type 0 where
  pub placed : Placed r t s k p
  pub linkable : Linkable t s (most_cells (row_count t))
  pub linked : Linked t s (cells_in s k)

-- a letter from k cells and rule p: the node arrived at and the answer; "nowhere is dealt with first, before any cell is written"
pub record Stepped (r : ℕ) (t : List ℕ) (l : Letter) (k p : ℕ) (s s' : List ℕ) (x : Landing) : Type 0 where
  pub node : (x.at.rule, cells_in s' x.at.used) ≡ moved (facts_in t) r l (p, cells_in s k)
  pub answered : x.answer ≡ answer_word (answer (facts_in t) r l (p, cells_in s k))
  pub stays : move (facts_in t) r l (p, cells_in s k) ≡ None → s' ≡ s
  pub within : Within cell_length (length t + row_length) s s'
  pub linked : Linked t s' (cells_in s' x.at.used)
