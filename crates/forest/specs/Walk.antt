-- What walk answers and leaves, from what is lent (document 01, "Walk" and "Letters").
use Rattle.std.specs.Prelude.{ℕ, zero, suc, ◌+◌, ◌-◌, ◌*◌, ◌/◌, Bool, true, false, cond, ◌&&◌, List, [], ◌∷◌, ◌++◌, map, length, replicate, ltb, leb, eqb, Result, Ok, Err}
use Rattle.std.specs.Prelude.{Option, None, Some}
use Rattle.words.specs.Number.{number, bytes, word_count}
use Rattle.rule.specs.declared.Rule.{Rule}
use Rattle.rule.specs.Rule.{closed}
use Rattle.rule.specs.Sound.{kind_in}
use Rattle.refusal.specs.declared.Refusal.{Refusal}
use Rattle.plan.specs.declared.Checked.{Checked}
use Rattle.record.specs.Record.{word_length}
use Rattle.plan.specs.Check.{checked, rules_of}
use Rattle.words.specs.Front.{in_front}
use Rattle.forest.specs.Forest.{Forest, forest}
use Rattle.forest.specs.Place.{Cell, Cells, Placed, placed_forest}
use Rattle.forest.specs.Letter.{Letter, letter_of}
use Rattle.forest.specs.Reference.{Path, label_at, answers, path_after}
use Rattle.forest.specs.Outcome.{enough_work, work_after}

-- "The cursor is a lent slice of 16-bit words, four to a cell."
abbrev pub cell_words : ℕ
cell_words = 4

abbrev pub cell_length : ℕ
cell_length = cell_words * word_length

-- "cursor below 16 × (n + 1) words": the words of the cursor that n rules need
unfoldable pub cursor_words : ℕ → ℕ
cursor_words n = 16 * (n + 1)

-- "Walk answers become 32-bit words (four bytes, low first, on byte slices, a rest not counted)" (document 02, Note 2)
abbrev pub answer_length : ℕ
answer_length = 4

abbrev pub answer_count : List ℕ → ℕ
answer_count given = length given / answer_length

-- "8: work below 32 × n words, cursor below 16 × (n + 1) words, or fewer answers than letters"
abbrev pub enough_cursor : ℕ → List ℕ → Bool
enough_cursor n cursor = leb (cursor_words n) (word_count cursor)

abbrev pub enough_answers : List ℕ → List ℕ → Bool
enough_answers letters given = leb (length letters) (answer_count given)

unfoldable pub enough_lent : List ℕ → List ℕ → List ℕ → List ℕ → ℕ → Bool
enough_lent work cursor letters given n = enough_work n work && (enough_cursor n cursor && enough_answers letters given)

-- .. where no letters are answered: "All that is lent, work too, is refused as in walk" (document 02, Note 11), "The old plan, its work and its
-- cursor are checked as in walk" (Note 12)
unfoldable pub enough_place : List ℕ → List ℕ → ℕ → Bool
enough_place work cursor n = enough_work n work && enough_cursor n cursor

-- a plan, and then what is lent with it: n and start, or the refusal
unfoldable pub lent_judged : List ℕ → List ℕ → Result Checked Refusal → Result Checked Refusal
lent_judged work cursor (Ok x) = cond (enough_place work cursor x.n) (Ok x) (Err Refusal.Lent)
lent_judged work cursor (Err x) = Err x

-- the letters of a string of bytes, up to the first that is none
unfoldable pub and_letters : Option Letter → List Letter → List Letter
and_letters None later = []
and_letters (Some c) later = c ∷ later

unfoldable pub letters_of : List ℕ → List Letter
letters_of [] = []
letters_of (b ∷ bs) = and_letters (letter_of b) (letters_of bs)

-- "9: the first byte outside a z f l n p u s": its place, counted from i
unfoldable pub other_at : Option Letter → ℕ → Option ℕ → Option ℕ
other_at None i later = Some i
other_at (Some c) i later = later

unfoldable pub first_other : List ℕ → ℕ → Option ℕ
first_other [] i = None
first_other (b ∷ bs) i = other_at (letter_of b) i (first_other bs (suc i))

-- the cell with a number, and cells 1 to k, the last first
unfoldable pub cell_at : List ℕ → ℕ → Cell
cell_at s i = (
  number word_length s (cell_length * i),
  number word_length s (cell_length * i + word_length),
  number word_length s (cell_length * i + 2 * word_length),
  number word_length s (cell_length * i + 3 * word_length),
)

unfoldable pub cells_in : List ℕ → ℕ → Cells
cells_in s zero = []
cells_in s (suc k) = cell_at s (suc k) ∷ cells_in s k

-- "Cell 0 holds the number k of used cells"
unfoldable pub used_cells : List ℕ → ℕ
used_cells s = (cell_at s 0).0

-- "Word 1 of cell 0 holds 0 for the start rule, or a rule number plus one." (document 02, Note 10)
unfoldable pub rule_word : List ℕ → ℕ
rule_word s = (cell_at s 0).1

unfoldable pub rule_named : ℕ → ℕ → ℕ
rule_named start zero = start
rule_named start (suc r) = r

-- the walked rule: "the forest walked .. and the places reachable, are those of that rule"
unfoldable pub walked_rule : ℕ → List ℕ → ℕ
walked_rule start s = rule_named start (rule_word s)

-- "A number beyond the rules or of a holed rule is refused with 10."
unfoldable pub is_closed : List Rule → ℕ → Bool
is_closed R r = ltb r (length R) && closed (kind_in R r)

-- "words 2 and 3 must still be 0"; and cells 1 to k lie in the words that n rules need, as those of every node do (demand/proofs/ByLetters)
unfoldable pub headed : ℕ → List ℕ → Bool
headed n s = eqb (cell_at s 0).2 0 && (eqb (cell_at s 0).3 0 && leb (cell_words * (used_cells s + 1)) (cursor_words n))

unfoldable pub same_cell : Cell → Cell → Bool
same_cell c d = eqb c.0 d.0 && (eqb c.1 d.1 && (eqb c.2 d.2 && eqb c.3 d.3))

unfoldable pub same_cells : Cells → Cells → Bool
same_cells [] [] = true
same_cells [] (d ∷ ds) = false
same_cells (c ∷ cs) [] = false
same_cells (c ∷ cs) (d ∷ ds) = same_cell c d && same_cells cs ds

-- the first path found
unfoldable pub first_of : Option Path → Option Path → Option Path
first_of None q = q
first_of (Some p) q = Some p

-- the path of the node with these cells among the trees numbered from i on, under the node at path p
unfoldable pub node_with : Cells → Forest Placed → ℕ → Path → Option Path
node_with cs Forest.none i p = None
node_with cs (Forest.tree a c f) i p =
    cond (same_cells cs a.1) (Some (i ∷ p)) (first_of (node_with cs c 1 (i ∷ p)) (node_with cs f (suc i) p))

-- "k = 0 is a place above the forest. Cells 1 to k are fixed by the node."
unfoldable pub path_of : Forest Placed → Cells → Option Path
path_of g [] = Some []
path_of g (c ∷ cs) = node_with (c ∷ cs) g 1 []

-- what a walk begins with: a refusal, or n, the walked rule and the path of the node whose cells are stored
pub data Begun : Type 0 where
  refused : Refusal → Begun
  at : ℕ → ℕ → Path → Begun

-- "10: no letters lead from a place above this forest to these used cells", or cell 0 isn't in order
unfoldable pub stored : ℕ → ℕ → Option Path → Begun
stored n r None = refused Refusal.Place
stored n r (Some p) = at n r p

-- the place that a cursor holds in rule r's forest
unfoldable pub place_in : List Rule → ℕ → ℕ → List ℕ → Begun
place_in R n r cursor =
    cond (is_closed R r && headed n cursor) (stored n r (path_of (placed_forest R r) (cells_in cursor (used_cells cursor)))) (refused Refusal.Place)

-- .. and in the walked rule's
unfoldable pub place_judged : List Rule → ℕ → ℕ → List ℕ → Begun
place_judged R n start cursor = place_in R n (walked_rule start cursor) cursor

-- "9: the first byte outside a z f l n p u s"
unfoldable pub letters_judged : Option ℕ → Begun → Begun
letters_judged None later = later
letters_judged (Some i) later = refused (Refusal.Letter i)

unfoldable pub begun_from : List ℕ → List ℕ → List ℕ → List ℕ → List ℕ → Result Checked Refusal → Begun
begun_from s work cursor letters given (Ok x) =
    cond (enough_lent work cursor letters given x.n)
    (letters_judged (first_other letters 0) (place_judged (rules_of s) x.n x.start cursor))
    (refused Refusal.Lent)
begun_from s work cursor letters given (Err r) = refused r

-- "As check; 8: .. 9: .. 10: .."
unfoldable pub begun : List ℕ → List ℕ → List ℕ → List ℕ → List ℕ → Begun
begun s work cursor letters given = begun_from s work cursor letters given (checked s)

unfoldable pub walked : Begun → Result Unit Refusal
walked (refused r) = Err r
walked (at n r p) = Ok tt

-- the cells of the node at a path, none above the forest
unfoldable pub cells_of : Option Placed → Cells
cells_of None = []
cells_of (Some a) = a.1

unfoldable pub place_at : Forest Placed → Path → Cells
place_at g p = cells_of (label_at g p)

-- a cell's bytes, and those of a stack of cells, the first cell first
unfoldable pub cell_bytes : Cell → List ℕ
cell_bytes c = bytes word_length c.0 ++ (bytes word_length c.1 ++ (bytes word_length c.2 ++ bytes word_length c.3))

unfoldable pub cells_bytes : Cells → List ℕ
cells_bytes [] = []
cells_bytes (c ∷ cs) = cells_bytes cs ++ cell_bytes c

-- "After an accepted walk the cells past k, up to 16 × (n + 1) words, are zero": bytes filled up with zeros
unfoldable pub padded : ℕ → List ℕ → List ℕ
padded m bs = bs ++ replicate (m - length bs) 0

-- .. with w in word 1 of cell 0
unfoldable pub stored_cursor : ℕ → ℕ → Cells → List ℕ → List ℕ
stored_cursor n w cs cursor = in_front (padded (word_length * cursor_words n) (cell_bytes (length cs, w, 0, 0) ++ cells_bytes cs)) cursor

-- "The word stays through every walk" (document 02, Note 10)
unfoldable pub cursor_after : List Rule → Begun → List ℕ → List ℕ → List ℕ
cursor_after R (refused r) letters cursor = cursor
cursor_after R (at n r p) letters cursor =
    stored_cursor n (rule_word cursor) (place_at (placed_forest R r) (path_after (forest R r) (letters_of letters) p)) cursor

-- "nowhere becomes 4,294,967,295, since 65,535 is now a food" (document 02, Note 2): document 01's word for it was 65,535
abbrev pub nowhere : ℕ
nowhere = 4294967295

unfoldable pub answer_word : Option ℕ → ℕ
answer_word None = nowhere
answer_word (Some a) = a

unfoldable pub answers_bytes : List ℕ → List ℕ
answers_bytes [] = []
answers_bytes (v ∷ vs) = bytes answer_length v ++ answers_bytes vs

-- "Each letter gives one word in answers", "answers past the letters are as they were"
unfoldable pub answers_after : List Rule → Begun → List ℕ → List ℕ → List ℕ
answers_after R (refused r) letters given = given
answers_after R (at n r p) letters given = in_front (answers_bytes (map answer_word (answers (forest R r) (letters_of letters) p))) given

-- "Past 8 .. the first 32 × n words of work end as zeros"
unfoldable pub walked_work : List ℕ → List ℕ → List ℕ → List ℕ → List ℕ → List ℕ
walked_work s work cursor letters given = work_after (enough_lent work cursor letters given) (checked s) work
