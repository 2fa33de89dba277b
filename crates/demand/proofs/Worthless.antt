-- Demand 3 rules out each worthless walker of document 01, and some more, so that every field of Meets that speaks of the walk shuts
-- one out: on the sample plan one call of two letters already breaks it, by computation; for those that go wrong by word 1 of cell 0
-- (document 02, Note 10) from above the forest of a rule by its number. The fields `small` and `local` speak of the
-- forms of cells, which no walker makes: each shuts out a worthless form. A spread that says 11 before measuring isn't the
-- definition's. Assumes nothing.
use Rattle.std.specs.Prelude.{Result, Ok, Err}
use Prim.Native.Nat.{ℕ, ◌+◌, ◌≤◌}
use native.Mathlib.Omega.{arith}
use mathlib.Core.Path.{◌≡◌, refl, ap}
use mathlib.Core.Logic.{◌≢◌}
use mathlib.Core.List.{List, [], ◌∷◌, ◌++◌}
use mathlib.Core.Bool.{Bool, true, true≢false}
use lib.ListN.{length, get_or, take, drop, replicate}
use Rattle.words.specs.Number.{number, bytes}
use Rattle.refusal.specs.declared.Refusal.{Refusal}
use Rattle.record.specs.Format.{high_length, most_label}
use Rattle.rule.specs.Rule.{closed}
use Rattle.rule.specs.Sound.{kind_in}
use Rattle.reach.specs.Reaches.{lowest_cycle, cycle_from, reaches, within, any_named}
use Rattle.judge.specs.Judge.{cycle_judged}
use Rattle.plan.specs.Check.{checked, rules_of}
use Rattle.words.specs.Front.{in_front}
use Rattle.forest.specs.Forest.{Forest, forest, weigh, text}
use Rattle.forest.specs.Relabel.{relabel}
use Rattle.forest.specs.Place.{Side, Cell, Cells, Placed, placed_forest, first_cells}
use Rattle.forest.specs.Letter.{Letter, letter_of, is_root}
use Rattle.forest.specs.Reference.{label_at, answers, path_after}
use Rattle.forest.specs.Outcome.{enough_work, work_judged, text_roomed, spread_from, spread}
use Rattle.forest.specs.Walk.{answer_length, nowhere, cursor_words, enough_lent, and_letters, letters_of, other_at, first_other, cell_at, cells_in, used_cells, rule_word, rule_named, walked_rule, is_closed, headed, same_cell, same_cells, first_of, node_with, path_of, stored, place_in, place_judged, letters_judged, begun_from, begun, walked, cells_of, place_at, cell_bytes, cells_bytes, padded, stored_cursor, cursor_after, answer_word, answers_bytes, answers_after, walked_work}
use Rattle.forest.specs.Sample.{sample}
use Rattle.forest.proofs.Starred.{starred}
use Rattle.demand.specs.Calls.{Lent, Left, Walk, Call, walk_of, lent, lefts, cursor_after_calls}
use Rattle.demand.specs.OnePlace.{OnePlace}
use Rattle.demand.specs.Demand.{turned_down, is_none, is_refused, finger_path, finger_answers, answer_words, walk_answers, Above, some_accepted, ClearPast, SameButSixteen, later_words, Meets, Demand3}

-- some words, all alike, in front of a walk's answers
alike : ℕ → ℕ → List ℕ → List ℕ
alike m v given = in_front (answers_bytes (replicate m v)) given

-- a walk with other answers and another cursor, where it accepts
other : Left → List ℕ → List ℕ → Left
other l answers cursor = go l.answer
  where
    go : Result Unit Refusal → Left
    go (Ok _) = record { answer = l.answer; work = l.work; cursor = cursor; answers = answers }
    go (Err r) = l

-- "one that walks the first letter and repeats its label": shut out by `answered`
first_only : Lent → Lent
first_only l = record { plan = l.plan; work = l.work; cursor = l.cursor; letters = take 1 l.letters; answers = l.answers }

pub repeats : Walk
repeats l =
    other (walk_of l) (alike (length l.letters) (number answer_length (walk_of (first_only l)).answers 0) l.answers) (walk_of (first_only l)).cursor

-- "one that answers as asked but writes a k of its own": `used`
pub own_count : Walk
own_count l = other (walk_of l) (walk_of l).answers (in_front (bytes 2 1) (walk_of l).cursor)

-- "one whose place never changes": `used` and `stored`
pub stays : Walk
stays l = other (walk_of l) (walk_of l).answers l.cursor

-- "one that says 65,535 to all", which was the word for nowhere, and one that says today's; "one that says 97 to all": `answered`
pub says : ℕ → Walk
says v l = other (walk_of l) (alike (length l.letters) v l.answers) (walk_of l).cursor

-- "one that refuses every plan with 3": `refused`
pub refuses : Walk
refuses l = record { answer = Err Refusal.Distance; work = l.work; cursor = l.cursor; answers = l.answers }

-- a walk that leaves one byte of the cursor as v
spoils : ℕ → ℕ → Walk
spoils i v l = other (walk_of l) (walk_of l).answers (take i (walk_of l).cursor ++ (v ∷ drop (i + 1) (walk_of l).cursor))

-- one with right answers and k but a wrong cell, the row that cell 1 opens: `stored`
pub wrong_cell : Walk
wrong_cell = spoils 12 8

-- one that leaves something past k, in the last word that it has to clear: `clear`
pub junk_past : Walk
junk_past = spoils 287 1

-- one that changes a later word of cell 0: `later`
pub later_word : Walk
later_word = spoils 4 1

-- one that drops the word that names the walked rule: `later`
pub drops_word : Walk
drops_word = spoils 2 0

-- a walk as if word 1 were another, which is then put back
with_word : ℕ → List ℕ → List ℕ
with_word w cursor = take 2 cursor ++ (w ∷ 0 ∷ drop 4 cursor)

as_named : (ℕ → ℕ) → Walk
as_named f l =
    let word = rule_word l.cursor in
    let there = walk_of (record { plan = l.plan; work = l.work; cursor = with_word (f word) l.cursor; letters = l.letters; answers = l.answers }) in
    other there there.answers (with_word word there.cursor)

-- one that walks the start rule whatever the word: `answered`
pub ignores_word : Walk
ignores_word = as_named (λ w. 0)

-- one that takes the word for the rule's number, without minus one: `answered`
pub takes_next : Walk
takes_next = as_named (λ w. w + 1)

-- one that leaves the number of letters behind its cells, in the last words that it has to clear: by document 02, Note 14, and by `clear`
pub counts_letters : Walk
counts_letters l = spoils 287 (length l.letters) l

-- a form of cells for the sample plan's nodes, each of m cells with its label
pub alike_cells : ℕ → Forest Placed
alike_cells m = relabel (λ (a : Placed). (a.0, replicate m (a.0, 0, 0, 0))) (placed_forest (rules_of sample) 7)

-- "a spread that says 11 before measuring"
pub room_first : List ℕ → List ℕ → List ℕ → Result ℕ Refusal
room_first s work out = Err Refusal.Room

-- a call of the letters a f on the sample plan, from above the forest
call : Call
call = record { work = replicate 512 0; letters = 97 ∷ 102 ∷ []; answers = replicate 8 0 }

first : List ℕ
first = replicate 288 0

-- above the forest of rule 2, the entry b alone, by its number plus one
one_rule : List ℕ
one_rule = 0 ∷ 0 ∷ 3 ∷ replicate 285 0

-- the first cursor is above the forest
in_order : Above (rules_of sample) 7 first
unfolding checked rules_of closed kind_in used_cells rule_word rule_named walked_rule cell_at number high_length most_label first
in_order = record { none_used = refl; in_order = record { names = record { below = omega arith; closed_kind = tt }; zeros = refl } }

-- what demand 3 says of that call from above a rule's forest
Said : Walk → ℕ → List ℕ → Type 0
Said w r cursor =
    Meets 8 (forest (rules_of sample) r) (placed_forest (rules_of sample) r) (turned_down 8 cursor) (call ∷ []) (lefts w sample cursor (call ∷ [])) cursor
    (cursor_after_calls w sample cursor (call ∷ [])) (finger_path (forest (rules_of sample) r) (turned_down 8 cursor) (call ∷ []) [])

said : (w : Walk) → Demand3 w → Said w 7 first
unfolding Demand3 Said rules_of used_cells rule_word rule_named walked_rule cell_at number first
said w d = d sample 8 7 first (call ∷ []) starred.accepted in_order

said-by-number : (w : Walk) → Demand3 w → Said w 2 one_rule
unfolding Demand3 Said checked rules_of closed kind_in used_cells rule_word rule_named walked_rule cell_at number high_length most_label one_rule
said-by-number w d =
    d sample 8 7 one_rule (call ∷ []) starred.accepted
    (record { none_used = refl; in_order = record { names = record { below = omega arith; closed_kind = tt }; zeros = refl } })

-- a call of some letters
letters-call : List ℕ → Call
letters-call letters = record { work = replicate 512 0; letters = letters; answers = replicate 8 0 }

-- what demand 3 would say of another form of cells, with no call made
pub Formed : Forest Placed → Type 0
Formed G = Meets 8 (forest (rules_of sample) 7) G (turned_down 8 first) [] [] first first []

abbrev first_bool : List Bool → Bool
first_bool [] = true
first_bool (b ∷ bs) = b

-- cell 1
abbrev first_cell : Cells → Cell
first_cell [] = (0, 0, 0, 0)
first_cell (c ∷ []) = c
first_cell (c ∷ d ∷ cs) = first_cell (d ∷ cs)

-- the length that spread gives
abbrev length_given : Result ℕ Refusal → ℕ
length_given (Ok m) = m
length_given (Err r) = 0

pub record Worthless : Type 0 where
  pub first_repeated : Demand3 repeats → ⊥
  pub no_own_count : Demand3 own_count → ⊥
  pub place_kept : Demand3 stays → ⊥
  pub always_65535 : Demand3 (says 65535) → ⊥
  pub always_nowhere : Demand3 (says nowhere) → ⊥
  pub always_97 : Demand3 (says 97) → ⊥
  pub always_refused : Demand3 refuses → ⊥
  pub no_wrong_cell : Demand3 wrong_cell → ⊥
  pub no_junk_past : Demand3 junk_past → ⊥
  pub no_later_word : Demand3 later_word → ⊥
  pub word_dropped : Demand3 drops_word → ⊥
  pub word_ignored : Demand3 ignores_word → ⊥
  pub next_taken : Demand3 takes_next → ⊥
  -- forms of 25 cells, which n = 8 rules don't allow: `small`; forms of 17 that all change with a letter: `local`
  pub long_form : Formed (alike_cells 25) → ⊥
  pub moving_form : Formed (alike_cells 17) → ⊥
  pub no_room_first : room_first ≢ spread
  -- document 02, Note 14: a and a s lead to one entry; no letters and a don't
  pub letters_counted : OnePlace counts_letters → ⊥
  pub place_never_changes : OnePlace stays → ⊥

pub worthless : Worthless
unfolding OnePlace counts_letters letters-call drops_word ignores_word takes_next as_named with_word one_rule Said closed kind_in rule_word rule_named walked_rule is_closed place_in Formed alike_cells relabel first_cells is_root SameButSixteen repeats own_count stays says refuses spoils wrong_cell junk_past later_word room_first weigh text work_judged text_roomed spread_from spread some_accepted ClearPast later_words cursor_after_calls other alike first_only call first walk_of lent lefts finger_path finger_answers walk_answers answer_words is_refused turned_down is_none checked high_length most_label lowest_cycle cycle_from reaches within any_named cycle_judged rules_of number bytes in_front forest placed_forest letter_of label_at answers path_after enough_work cursor_words enough_lent and_letters letters_of other_at first_other cell_at cells_in used_cells headed same_cell same_cells first_of node_with path_of stored place_judged letters_judged begun_from begun walked cells_of place_at cell_bytes cells_bytes padded stored_cursor cursor_after answer_word answers_bytes answers_after walked_work
worthless =
    record {
      first_repeated = λ d. let e : ◌≡◌ {A = ℕ} 99 97 = ap (λ (l : List ℕ). get_or l 1 0) (said repeats d).answered in omega arith;
      no_own_count = λ d. let e : ◌≡◌ {A = ℕ} 1 7 = (said own_count d).used in omega arith;
      place_kept = λ d. let e : ◌≡◌ {A = ℕ} 0 7 = (said stays d).used in omega arith;
      always_65535 = λ d. let e : ◌≡◌ {A = ℕ} 65535 99 = ap (λ (l : List ℕ). get_or l 0 0) (said (says 65535) d).answered in omega arith;
      always_nowhere = λ d. let e : ◌≡◌ {A = ℕ} nowhere 99 = ap (λ (l : List ℕ). get_or l 0 0) (said (says nowhere) d).answered in omega arith;
      always_97 = λ d. let e : ◌≡◌ {A = ℕ} 97 99 = ap (λ (l : List ℕ). get_or l 0 0) (said (says 97) d).answered in omega arith;
      always_refused = λ d. absurd (true≢false (ap (first_bool) (said refuses d).refused));
      no_wrong_cell = λ d. let e : ◌≡◌ {A = ℕ} 8 7 = ap (λ (l : Cells). (first_cell l).2) (said wrong_cell d).stored in omega arith;
      no_junk_past = λ d. let e : ◌≡◌ {A = ℕ} 1 0 = ap (λ (l : List ℕ). get_or l 223 0) ((said junk_past d).clear refl) in omega arith;
      no_later_word = λ d. let e : ◌≡◌ {A = ℕ} 1 0 = ap (λ (x : ℕ × ℕ × ℕ). x.1) (said later_word d).later in omega arith;
      word_dropped = λ d. let e : ◌≡◌ {A = ℕ} 0 3 = ap (λ (x : ℕ × ℕ × ℕ). x.0) (said-by-number drops_word d).later in omega arith;
      word_ignored = λ d. let e : ◌≡◌ {A = ℕ} 99 98 = ap (λ (l : List ℕ). get_or l 0 0) (said-by-number ignores_word d).answered in omega arith;
      next_taken = λ d. let e : ◌≡◌ {A = ℕ} 97 98 = ap (λ (l : List ℕ). get_or l 0 0) (said-by-number takes_next d).answered in omega arith;
      long_form = λ m. let e : 25 ≤ 24 = m.small (Letter.root Side.left ∷ []) in omega arith;
      moving_form = λ m. let e : ◌≡◌ {A = ℕ} 99 97 = ap (λ (l : Cells). (first_cell l).0) (m.local (Letter.root Side.left ∷ []) (Letter.child Side.left) refl) in omega arith;
      letters_counted = λ d.
          let e : ◌≡◌ {A = ℕ} 1 2 =
          ap (λ (l : List ℕ). get_or l 287 0)
          ((d sample 8 7 first first (letters-call (97 ∷ []) ∷ []) (letters-call (97 ∷ 115 ∷ []) ∷ []) starred.accepted in_order in_order refl refl refl).1 refl) in
          omega arith;
      place_never_changes = λ d.
          let e : ◌≡◌ {A = ℕ} 0 1 =
          ap (λ (l : List ℕ). get_or l 0 0)
          ((d sample 8 7 first first (letters-call [] ∷ []) (letters-call (97 ∷ []) ∷ []) starred.accepted in_order in_order refl refl refl).0 refl) in
          omega arith;
      no_room_first = λ e. let h : ◌≡◌ {A = ℕ} 0 33 = ap (λ (f : List ℕ → List ℕ → List ℕ → Result ℕ Refusal). length_given (f sample (replicate 512 0) (replicate 33 0))) e in omega arith;
    }
