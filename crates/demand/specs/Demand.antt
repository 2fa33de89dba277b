-- Demand 3 (document 01, "The finger of demand 3"), as a predicate on a walk. The reference walker (document 01's finger) is fed
-- the plan, the first cursor, and each call's letters and slice lengths, and nothing that the walk wrote.
use Rattle.std.specs.Prelude.{ℕ, zero, suc, ◌+◌, ◌-◌, ◌*◌, ◌≤◌, min, ◌≡◌, Bool, true, false, cond, not, ◌&&◌, ◌||◌, List, [], ◌∷◌, ◌++◌, map, length, take, drop, replicate, Result, Ok, Err}
use Rattle.refusal.specs.declared.Refusal.{Refusal}
use Rattle.std.specs.Prelude.{Option, None, Some}
use Rattle.words.specs.Number.{number}
use Rattle.rule.specs.declared.Rule.{Rule}
use Rattle.rule.specs.Sound.{Closed}
use Rattle.record.specs.Record.{word_length}
use Rattle.plan.specs.Check.{checked, rules_of}
use Rattle.forest.specs.Forest.{Forest, forest}
use Rattle.forest.specs.Place.{Cells, Placed, placed_forest, first_cells}
use Rattle.forest.specs.Letter.{Letter, is_root}
use Rattle.forest.specs.Reference.{Path, moved, answers, path_after}
use Rattle.forest.specs.Walk.{answer_length, cell_length, cursor_words, enough_lent, first_other, letters_of, cell_at, cells_in, used_cells, rule_word, walked_rule, place_at, answer_word}
use Rattle.demand.specs.Calls.{Walk, Call, Left, lefts, cursor_after_calls}

unfoldable pub is_none : Option ℕ → Bool
is_none None = true
is_none (Some i) = false

-- "In the list a call is refused exactly when 8 or 9 says so": from n, the slices' lengths and the letters
unfoldable pub turned_down : ℕ → List ℕ → Call → Bool
unfolding enough_lent first_other is_none
turned_down n cursor c = not (enough_lent c.work cursor c.letters c.answers n && is_none (first_other c.letters 0))

unfoldable pub is_refused : Result Unit Refusal → Bool
is_refused (Ok _) = false
is_refused (Err r) = true

-- "A call that 8 or 9 turns down gives no answers and leaves the path. Any other takes its letters in turn."
unfoldable pub finger_path : Forest ℕ → (Call → Bool) → List Call → Path → Path
unfolding path_after letters_of
finger_path g down [] p = p
finger_path g down (c ∷ cs) p = finger_path g down cs (cond (down c) p (path_after g (letters_of c.letters) p))

unfoldable pub finger_answers : Forest ℕ → (Call → Bool) → List Call → Path → List (Option ℕ)
unfolding answers path_after letters_of
finger_answers g down [] p = []
finger_answers g down (c ∷ cs) p =
    cond (down c) (finger_answers g down cs p)
    (answers g (letters_of c.letters) p ++ finger_answers g down cs (path_after g (letters_of c.letters) p))

-- m words of answers from an offset on
unfoldable pub answer_words : ℕ → List ℕ → ℕ → List ℕ
unfolding number
answer_words zero s at = []
answer_words (suc m) s at = number answer_length s at ∷ answer_words m s (at + answer_length)

-- "The first words of answers, one for each letter, as each accepted call returned them"
unfoldable pub walk_answers : List Call → List Left → List ℕ
unfolding answer_words is_refused
walk_answers [] ls = []
walk_answers (c ∷ cs) [] = []
walk_answers (c ∷ cs) (l ∷ ls) = cond (is_refused l.answer) (walk_answers cs ls) (answer_words (length c.letters) l.answers 0 ++ walk_answers cs ls)

-- a cell 0 that 10 doesn't refuse: word 1 names a rule to walk, and "words 2 and 3 must still be 0" (document 02, Note 10)
pub record InOrder (R : List Rule) (start : ℕ) (cursor : List ℕ) : Type 0 where
  pub names : Closed R (walked_rule start cursor)
  pub zeros : cell_at cursor 0 ≡ (used_cells cursor, rule_word cursor, 0, 0)

-- "Above the forest means k = 0 in a cell 0 that 10 doesn't refuse."
pub record Above (R : List Rule) (start : ℕ) (cursor : List ℕ) : Type 0 where
  pub none_used : used_cells cursor ≡ 0
  pub in_order : InOrder R start cursor

-- above the start rule's forest with word 1 zero, as a cursor of zeros is
unfoldable pub AboveStart : List ℕ → Type 0
unfolding cell_at
AboveStart cursor = cell_at cursor 0 ≡ (0, 0, 0, 0)

-- "if any call was accepted"
unfoldable pub some_accepted : List Left → Bool
unfolding is_refused
some_accepted [] = false
some_accepted (l ∷ ls) = not (is_refused l.answer) || some_accepted ls

-- "cells past k, up to 16 × (n + 1) words, are zero"
unfoldable pub ClearPast : ℕ → ℕ → List ℕ → Type 0
unfolding cursor_words
ClearPast n k cursor =
    take (word_length * cursor_words n - cell_length * (k + 1)) (drop (cell_length * (k + 1)) cursor)
    ≡ replicate (word_length * cursor_words n - cell_length * (k + 1)) 0

-- "let m be the smaller of k before and k after: cells 1 to m − 16 are then the same before and after"; a place has the last cell first
unfoldable pub SameButSixteen : Cells → Cells → Type 0
SameButSixteen cs ds = first_cells (min (length cs) (length ds) - 16) cs ≡ first_cells (min (length cs) (length ds) - 16) ds

-- cell 0's words past k
unfoldable pub later_words : List ℕ → ℕ × ℕ × ℕ
unfolding cell_at
later_words cursor = ((cell_at cursor 0).1, (cell_at cursor 0).2, (cell_at cursor 0).3)

-- What must hold of a list of calls: g is the walked rule's forest and G the same with places, down says which calls 8 or 9
-- turns down, ls is what the calls left, first the cursor before them and end the one after them, p the finger's path.
pub record Meets (n : ℕ) (g : Forest ℕ) (G : Forest Placed) (down : Call → Bool) (calls : List Call) (ls : List Left) (first end : List ℕ) (p : Path) : Type 0 where
  -- "In the list a call is refused exactly when 8 or 9 says so."
  pub refused : map (λ (l : Left). is_refused l.answer) ls ≡ map down calls
  -- "equal the finger's answers in order, nowhere being the word that Letters gives for it", as document 02, Note 2 has changed it
  pub answered : walk_answers calls ls ≡ map answer_word (finger_answers g down calls [])
  -- "After the list, k and cells 1 to k are those of the node at the finger's path, k being 0 for the empty path"
  pub used : used_cells end ≡ length (place_at G p)
  pub stored : cells_in end (used_cells end) ≡ place_at G p
  -- "The word stays through every walk; words 2 and 3 must still be 0" (document 02, Note 10): the later words are those of the first cursor
  pub later : later_words end ≡ later_words first
  -- "if any call was accepted, cells past k, up to 16 × (n + 1) words, are zero"
  pub clear : some_accepted ls ≡ true → ClearPast n (used_cells end) end
  -- at every key, some letters cs after the calls: "k is at most 3 × n". The letters of a next call up to a key are such letters, so
  -- this and the next field speak of every place inside a call too
  pub small : (cs : List Letter) → length (place_at G (path_after g cs p)) ≤ 3 * n
  -- "For a single letter other than a or z .. cells 1 to m − 16 are then the same before and after."
  pub local : (cs : List Letter) (c : Letter) → is_root c ≡ false → SameButSixteen (place_at G (path_after g cs p)) (place_at G (moved g c (path_after g cs p)))

-- Demand 3: over every list of calls on an accepted plan, the first cursor above the forest. "From then on the forest walked, also by
-- the finger of demand 3, and the places reachable, are those of that rule" (document 02, Note 10)
unfoldable pub Demand3 : Walk → Type 0
unfolding walked_rule turned_down finger_path lefts cursor_after_calls forest placed_forest
Demand3 w =
    (plan : List ℕ) (n start : ℕ) (cursor : List ℕ) (calls : List Call)
    → checked plan ≡ Ok (record { n = n; start = start })
    → Above (rules_of plan) start cursor
    → Meets n (forest (rules_of plan) (walked_rule start cursor)) (placed_forest (rules_of plan) (walked_rule start cursor)) (turned_down n cursor) calls
    (lefts w plan cursor calls)
    cursor
    (cursor_after_calls w plan cursor calls)
    (finger_path (forest (rules_of plan) (walked_rule start cursor)) (turned_down n cursor) calls [])
