-- The starred cases of document 01, "One sample plan", as rows of one theorem on the outcome definitions, from the plan's bytes on, and
-- those of document 02, Note 10, on the same plan. Further rows tell a merged run from two runs and a one-sided pair from a step; each is worked out by hand from "The stored
-- place". All hold by computation.
-- Assumes nothing.
use Rattle.std.specs.Prelude.{Ok, Err}
use Prim.Native.Nat.{ℕ, ◌*◌}
use mathlib.Core.Path.{◌≡◌, refl}
use mathlib.Core.List.{List, [], ◌∷◌, ◌++◌, map, reverse}
use lib.ListN.{length, replicate, take, drop}
use Rattle.words.specs.Number.{number, bytes}
use Rattle.record.specs.declared.Format.{Format}
use Rattle.record.specs.Format.{high_length, most_label}
use Rattle.rule.specs.declared.Rule.{Rule}
use Rattle.refusal.specs.declared.Refusal.{Refusal}
use Rattle.rule.specs.Rule.{encode, closed}
use Rattle.rule.specs.Sound.{kind_in}
use Rattle.refusal.specs.Refusal.{number_of, position_of}
use Rattle.reach.specs.Reaches.{lowest_cycle, cycle_from, reaches, within, any_named}
use Rattle.judge.specs.Judge.{cycle_judged}
use Rattle.plan.specs.Check.{checked, rules_of, plan_bytes}
use Rattle.words.specs.Front.{in_front}
use Rattle.forest.specs.Place.{Cells, placed_forest}
use Rattle.forest.specs.Forest.{forest}
use Rattle.forest.specs.Sample.{sample}
use Rattle.forest.specs.Reference.{label_at, answers, path_after}
use Rattle.forest.specs.Outcome.{measured, spread, spread_output, enough_work}
use Rattle.forest.specs.Letter.{letter_of}
use Rattle.forest.specs.Walk.{answer_length, nowhere, cursor_words, enough_lent, and_letters, letters_of, other_at, first_other, cell_at, cells_in, used_cells, rule_word, rule_named, walked_rule, is_closed, headed, same_cell, same_cells, first_of, node_with, path_of, stored, place_in, place_judged, letters_judged, begun_from, begun, walked, cells_of, place_at, cell_bytes, cells_bytes, padded, stored_cursor, cursor_after, answer_word, answers_bytes, answers_after, walked_work}

-- a plan's bytes from its rules and start
abbrev plan : List Rule → ℕ → List ℕ
plan R start = plan_bytes Format.Narrow (map encode R) start

-- what is lent: enough for eight rules and thirty-two letters; the cursor is above the forest
abbrev work : List ℕ
work = replicate 512 1

abbrev above : List ℕ
above = replicate 288 0

abbrev given : List ℕ
given = replicate 128 5

-- above the forest of the rule that word 1 names
abbrev above_of : ℕ → List ℕ
above_of w = 0 ∷ 0 ∷ w ∷ 0 ∷ replicate 284 0

-- the walk's answers to some letters, from a cursor and from above the start rule's forest, and its cells after them, the first cell first
abbrev answered_from : List ℕ → List ℕ → List ℕ → List ℕ
answered_from cursor s letters = take (answer_length * length letters) (answers_after (rules_of s) (begun s work cursor letters given) letters given)

abbrev answered : List ℕ → List ℕ → List ℕ
answered = answered_from above

abbrev cursor_from : List ℕ → List ℕ → List ℕ → List ℕ
cursor_from cursor s letters = cursor_after (rules_of s) (begun s work cursor letters given) letters cursor

abbrev cursor_of : List ℕ → List ℕ → List ℕ
cursor_of = cursor_from above

abbrev cells_of_cursor : List ℕ → Cells
cells_of_cursor cursor = reverse (cells_in cursor (used_cells cursor))

abbrev cells_after : List ℕ → List ℕ → Cells
cells_after s letters = cells_of_cursor (cursor_of s letters)

-- the letters' bytes
abbrev first : ℕ
first = 97

abbrev last : ℕ
last = 122

abbrev child : ℕ
child = 102

abbrev next : ℕ
next = 110

abbrev up : ℕ
up = 117

-- afnnfnn
abbrev seven : List ℕ
seven = first ∷ child ∷ next ∷ next ∷ child ∷ next ∷ next ∷ []

-- four trees in a row of three left steps
abbrev comb : List ℕ
comb = plan (Rule.Empty ∷ Rule.Node 97 0 ∷ Rule.Pair 1 1 ∷ Rule.Pair 2 1 ∷ Rule.Pair 3 1 ∷ []) 4

-- the sample with label 0 in place of 98; and a wide plan with labels 0 and 65,536 side by side
abbrev divided : List ℕ
divided =
    plan
    (Rule.Empty ∷ Rule.Node 97 0 ∷ Rule.Node 0 0 ∷ Rule.Pair 1 2 ∷ Rule.Part 99 3 2 ∷ Rule.Join 4 4 ∷ Rule.Fill 5 1 ∷ Rule.Pair 6 3 ∷ [])
    7

abbrev wide : List ℕ
wide = plan_bytes Format.Wide (map encode (Rule.Empty ∷ Rule.Node 0 0 ∷ Rule.Node 65536 0 ∷ Rule.Pair 1 2 ∷ [])) 3

-- one-sided pairs on either side, at the start rule too
abbrev one-sided : List ℕ
one-sided = plan (Rule.Empty ∷ Rule.Node 97 0 ∷ Rule.Pair 0 1 ∷ Rule.Pair 2 0 ∷ Rule.Pair 3 1 ∷ Rule.Pair 0 4 ∷ []) 5

-- a node over an empty L, a hole and an empty R; a chain of kind 3 rules; a join whose last hole goes on in C
abbrev chain : ℕ → List ℕ
chain start =
    plan
    (Rule.Empty ∷ Rule.Node 97 0 ∷ Rule.Part 98 0 0 ∷ Rule.Fill 2 1 ∷ Rule.Fill 2 3 ∷ Rule.Join 2 2 ∷ Rule.Fill 5 4 ∷ [])
    start

pub record Starred : Type 0 where
  -- ★ the answers to afnnfnnnnununnn
  pub answers : answered sample (first ∷ child ∷ next ∷ next ∷ child ∷ next ∷ next ∷ next ∷ next ∷ up ∷ next ∷ up ∷ next ∷ next ∷ next ∷ []) ≡ answers_bytes (99 ∷ 97 ∷ 98 ∷ 99 ∷ 97 ∷ 98 ∷ 97 ∷ 98 ∷ nowhere ∷ 99 ∷ 98 ∷ 99 ∷ 97 ∷ 98 ∷ nowhere ∷ [])
  -- ★ spread text (c(a)(b)(c(a)(b)(a)(b))(b))(a)(b), 33 bytes
  pub text : spread_output sample work (replicate 33 0) ≡ 40 ∷ 99 ∷ 40 ∷ 97 ∷ 41 ∷ 40 ∷ 98 ∷ 41 ∷ 40 ∷ 99 ∷ 40 ∷ 97 ∷ 41 ∷ 40 ∷ 98 ∷ 41 ∷ 40 ∷ 97 ∷ 41 ∷ 40 ∷ 98 ∷ 41 ∷ 41 ∷ 40 ∷ 98 ∷ 41 ∷ 41 ∷ 40 ∷ 97 ∷ 41 ∷ 40 ∷ 98 ∷ 41 ∷ []
  pub text_length : spread sample work (replicate 33 0) ≡ Ok 33
  pub text_short : spread sample work (replicate 32 0) ≡ Err Refusal.Room
  -- ★ measure 3, 11, 3
  pub counts : measured sample work ≡ Ok (record { trees = 3; entries = 11; levels = 3 })
  -- document 02, Note 9: "The sample plan gives 11 as before; the same plan with label 0 in place of 98 gives 6"; the whole label is looked at
  pub dividers : measured divided work ≡ Ok (record { trees = 3; entries = 6; levels = 3 })
  pub wide_dividers : measured wide work ≡ Ok (record { trees = 2; entries = 1; levels = 1 })
  -- ★ after a, after afnnfnn, one more n
  pub cells_1 : cells_after sample (first ∷ []) ≡ (1, 0, 7, 0) ∷ (3, 7, 6, 0) ∷ (2, 6, 0, 0) ∷ (3, 5, 4, 0) ∷ []
  pub cells_7 : cells_after sample seven ≡ (1, 0, 7, 0) ∷ (3, 7, 6, 0) ∷ (2, 6, 0, 0) ∷ (4, 5, 4, 0) ∷ (2, 1, 0, 0) ∷ []
  pub cells_8 : cells_after sample (first ∷ child ∷ next ∷ next ∷ child ∷ next ∷ next ∷ next ∷ []) ≡ (1, 0, 7, 0) ∷ (3, 7, 6, 0) ∷ (2, 6, 0, 0) ∷ (4, 5, 4, 0) ∷ (1, 2, 2, 0) ∷ (2, 2, 0, 0) ∷ []
  -- ★ one empty rule: a and z nowhere
  pub empty : answered (plan (Rule.Empty ∷ []) 0) (first ∷ last ∷ []) ≡ answers_bytes (nowhere ∷ nowhere ∷ [])
  -- ★ 10 bytes, right mark, n = 0: 2
  pub no_rules : checked (0 ∷ 0 ∷ 0 ∷ 0 ∷ 0 ∷ 0 ∷ 0 ∷ 0 ∷ 109 ∷ 112 ∷ []) ≡ Err Refusal.Count
  -- ★ rule 0 = pair 0 0: 12 at 0 since Note 1
  pub own_name : checked (plan (Rule.Pair 0 0 ∷ []) 0) ≡ Err (Refusal.Cycle 0)
  -- the numbers and positions of these
  pub numbers : map number_of (Refusal.Count ∷ Refusal.Cycle 0 ∷ Refusal.Room ∷ []) ≡ 2 ∷ 12 ∷ 11 ∷ []
  pub positions : map position_of (Refusal.Count ∷ Refusal.Cycle 0 ∷ Refusal.Room ∷ []) ≡ 0 ∷ 0 ∷ 0 ∷ []
  -- check accepts the sample with n = 8, start 7
  pub accepted : checked sample ≡ Ok (record { n = 8; start = 7 })
  -- a run of three left steps is one cell; a run that turns is two
  pub three_left : cells_after comb (first ∷ []) ≡ (1, 0, 4, 0) ∷ (3, 4, 1, 0) ∷ (2, 1, 0, 0) ∷ []
  pub one_turn : cells_after comb (first ∷ next ∷ []) ≡ (1, 0, 4, 0) ∷ (3, 4, 2, 0) ∷ (4, 2, 1, 0) ∷ (2, 1, 0, 0) ∷ []
  -- one-sided pairs show in no cell, at the start rule neither
  pub skipped : cells_after one-sided (first ∷ []) ≡ (1, 0, 4, 0) ∷ (3, 4, 1, 0) ∷ (2, 1, 0, 0) ∷ []
  pub skipped_last : cells_after one-sided (last ∷ []) ≡ (1, 0, 4, 0) ∷ (4, 4, 1, 0) ∷ (2, 1, 0, 0) ∷ []
  -- an empty L and an empty R with a hole between: the hole's tree is the child
  pub hole_only : answered (chain 3) (first ∷ child ∷ child ∷ []) ≡ answers_bytes (98 ∷ 97 ∷ nowhere ∷ [])
  pub hole_cells : cells_after (chain 3) (first ∷ child ∷ []) ≡ (1, 0, 3, 0) ∷ (2, 3, 0, 0) ∷ (2, 1, 0, 0) ∷ []
  -- a chain of kind 3 rules: each C opens a spine of its own
  pub chained : cells_after (chain 4) (first ∷ child ∷ child ∷ []) ≡ (1, 0, 4, 0) ∷ (2, 4, 0, 0) ∷ (2, 3, 0, 0) ∷ (2, 1, 0, 0) ∷ []
  -- document 02, Note 10: rule 3 of the sample, a and b side by side, by its number plus one; what is left in cell 0 and in the cells after a
  pub rule_answers : answered_from (above_of 4) sample (first ∷ next ∷ next ∷ up ∷ []) ≡ answers_bytes (97 ∷ 98 ∷ nowhere ∷ nowhere ∷ [])
  pub rule_head : cell_at (cursor_from (above_of 4) sample (first ∷ [])) 0 ≡ (3, 4, 0, 0)
  pub rule_cells : cells_of_cursor (cursor_from (above_of 4) sample (first ∷ [])) ≡ (1, 0, 3, 0) ∷ (3, 3, 1, 0) ∷ (2, 1, 0, 0) ∷ []
  -- "The start rule may also be named by number and gives the same answers": and the same cursor but for the word
  pub start_answers : answered_from (above_of 8) sample seven ≡ answered sample seven
  pub start_cursor : cursor_from (above_of 8) sample seven ≡ take 2 (cursor_of sample seven) ++ (8 ∷ drop 3 (cursor_of sample seven))
  -- "A number beyond the rules or of a holed rule is refused with 10": beyond, a part, a join
  pub rule_beyond : walked (begun sample work (above_of 9) [] given) ≡ Err Refusal.Place
  pub rule_part : walked (begun sample work (above_of 5) [] given) ≡ Err Refusal.Place
  pub rule_join : walked (begun sample work (above_of 6) [] given) ≡ Err Refusal.Place
  -- "words 2 and 3 must still be 0"
  pub no_later_word : walked (begun sample work (0 ∷ 0 ∷ 4 ∷ 0 ∷ 1 ∷ 0 ∷ replicate 282 0) [] given) ≡ Err Refusal.Place
  -- an empty rule's forest
  pub rule_empty : answered_from (above_of 1) sample (first ∷ last ∷ []) ≡ answers_bytes (nowhere ∷ nowhere ∷ [])
  pub place_number : number_of Refusal.Place ≡ 10
  -- the last hole of a spine continues in C
  pub continued : cells_after (chain 6) (first ∷ child ∷ child ∷ []) ≡ (1, 0, 6, 0) ∷ (2, 6, 0, 0) ∷ (4, 5, 2, 0) ∷ (2, 4, 0, 0) ∷ []

pub starred : Starred
unfolding plan_bytes encode high_length most_label rules_of checked lowest_cycle cycle_from reaches within any_named cycle_judged bytes number spread spread_output measured enough_work in_front letter_of label_at answers path_after placed_forest forest cursor_words enough_lent and_letters letters_of other_at first_other cell_at cells_in used_cells closed kind_in rule_word rule_named walked_rule is_closed headed same_cell same_cells first_of node_with path_of stored place_in place_judged letters_judged begun_from begun walked cells_of place_at cell_bytes cells_bytes padded stored_cursor cursor_after answer_word answers_bytes answers_after walked_work
starred =
    record {
      answers = refl;
      text = refl;
      text_length = refl;
      text_short = refl;
      counts = refl;
      dividers = refl;
      wide_dividers = refl;
      cells_1 = refl;
      cells_7 = refl;
      cells_8 = refl;
      empty = refl;
      no_rules = refl;
      own_name = refl;
      numbers = refl;
      positions = refl;
      accepted = refl;
      three_left = refl;
      one_turn = refl;
      skipped = refl;
      skipped_last = refl;
      hole_only = refl;
      hole_cells = refl;
      chained = refl;
      rule_answers = refl;
      rule_head = refl;
      rule_cells = refl;
      start_answers = refl;
      start_cursor = refl;
      rule_beyond = refl;
      rule_part = refl;
      rule_join = refl;
      no_later_word = refl;
      rule_empty = refl;
      place_number = refl;
      continued = refl;
    }
