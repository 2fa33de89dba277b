-- A log walked in parts (document 02, Note 13): "A log that isn't refused, replayed in order in parts, each from the cursor that the one before
-- left, gives the same answers as whole."
use Rattle.std.specs.Prelude.{ℕ, ◌≡◌, Bool, false, List, [], ◌∷◌, ◌++◌, length, Ok}
use Rattle.plan.specs.Check.{checked, rules_of}
use Rattle.forest.specs.Walk.{cells_in, used_cells}
use Rattle.demand.specs.Calls.{Walk, Call, Left, lent, lefts, cursor_after_calls}
use Rattle.demand.specs.Demand.{turned_down, answer_words, walk_answers, Above}

-- the letters of calls, one after another
unfoldable pub all_letters : List Call → List ℕ
all_letters [] = []
all_letters (c ∷ cs) = c.letters ++ all_letters cs

-- "that isn't refused": 8 and 9 turn no call down
unfoldable pub NoneDown : (Call → Bool) → List Call → Type 0
NoneDown down [] = Unit {0}
NoneDown down (c ∷ cs) = (down c ≡ false) × NoneDown down cs

-- the parts come to what the whole comes to: ls is what they left and end their last cursor, l what the whole left
pub record Alike (parts : List Call) (ls : List Left) (end : List ℕ) (whole : Call) (l : Left) : Type 0 where
  -- "the same answers as whole"
  pub answered : walk_answers parts ls ≡ answer_words (length whole.letters) l.answers 0
  -- and the same place
  pub used : used_cells end ≡ used_cells l.cursor
  pub stored : cells_in end (used_cells end) ≡ cells_in l.cursor (used_cells l.cursor)

-- over every cutting of a log into calls, from a cursor above the forest
unfoldable pub Parted : Walk → Type 0
Parted w =
    (plan : List ℕ) (n start : ℕ) (cursor : List ℕ) (parts : List Call) (whole : Call)
    → checked plan ≡ Ok (record { n = n; start = start })
    → Above (rules_of plan) start cursor
    → whole.letters ≡ all_letters parts
    → NoneDown (turned_down n cursor) parts
    → turned_down n cursor whole ≡ false
    → Alike parts (lefts w plan cursor parts) (cursor_after_calls w plan cursor parts) whole (w (lent plan cursor whole))
