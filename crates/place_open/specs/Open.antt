-- A stored place opened: what is asked of the rows and the cursor, and what the answer says of the place.
use Rattle.std.specs.Prelude.{ℕ, ◌≤◌, ◌≡◌, Bool, true, ◌&&◌, List, [], ◌∷◌, length, ltb, Result, Ok, Err}
use Rattle.rule.specs.declared.Rule.{Rule}
use Rattle.rule.specs.Rule.{encode, closed}
use Rattle.refusal.specs.declared.Refusal.{Refusal}
use Rattle.forest.specs.Expression.{expression}
use Rattle.forest.specs.Place.{Cells}
use Rattle.forest.specs.Position.{Named, located_of}
use Rattle.forest.specs.Reference.{Path, label_at}
use Rattle.forest.specs.Walk.{cells_in, Begun, place_judged}
use Rattle.model.specs.Facts.{Facts}
use Rattle.model.specs.Model.{Node}
use Rattle.model.specs.Same.{Same}
use Rattle.model.specs.Stored.{accepts}
use Rattle.facts.specs.Facts.{row_count}
use Rattle.place_cells.specs.Cells.{cursor_length}
use Rattle.letter_arrival.specs.declared.Standing.{Standing}
use Rattle.letter_moves.specs.Standing.{rules_kept, WalkedRows, Placed}
use Rattle.place_open.specs.declared.Opened.{Opened}

-- cells are a place: above the forest, or a node's
unfoldable pub placed : Facts → ℕ → Cells → Bool
placed F r [] = true
placed F r (c ∷ cs) = accepts F r (c ∷ cs)

-- a rule can be walked: one of n, and closed
unfoldable pub closed_in : Facts → ℕ → ℕ → Bool
closed_in F n r = ltb r n && closed (encode (F.rule r)).kind

-- the rows of n rules, with enough of the cursor
pub record Openable (r n : ℕ) (t cursor : List ℕ) : Type 0 where
  pub rows : WalkedRows r t
  pub count : row_count t ≡ n
  pub room : cursor_length n ≤ length cursor

-- the walker's node x stands at the path p of rule r's forest, or both are above it
pub record Stood (R : List Rule) (r : ℕ) (p : Path) (x : Node) : Type 0 where
  pub named : Named (located_of (expression R r)) p
  pub same : Same (expression R r) (label_at (located_of (expression R r)) p) x

-- the cursor s holds a place of rule r's forest, which the walk stands at
pub record OpensAt (t : List ℕ) (n start : ℕ) (s : List ℕ) (r : ℕ) (h : Standing) : Type 0 where
  pub place : Placed r t s h.used h.rule
  pub path : Path
  pub stood : Stood (rules_kept t) r path (h.rule, cells_in s h.used)
  pub begun : place_judged (rules_kept t) n start s ≡ Begun.at n r path

-- what the answer says
pub record Opens (t : List ℕ) (n start : ℕ) (s : List ℕ) (x : Result Opened Refusal) : Type 0 where
  pub at : (r : ℕ) (h : Standing) → x ≡ Ok (record { walked = r; at = h }) → OpensAt t n start s r h
  pub refused : (why : Refusal) → x ≡ Err why → place_judged (rules_kept t) n start s ≡ Begun.refused why
