-- What a string of letters does, as the model has it.
use Rattle.std.specs.Prelude.{ℕ, ◌+◌, ◌*◌, ◌≤◌, ◌≡◌, List, map, length}
use Rattle.words.specs.Front.{in_front}
use Rattle.forest.specs.Walk.{answer_length, cell_length, cells_in, letters_of, answer_word, answers_bytes}
use Rattle.model.specs.Walk.{answers, after}
use Rattle.letter_arrival.specs.declared.Standing.{Standing}
use Rattle.work_rows.specs.Rows.{Within, row_length}
use Rattle.facts.specs.Facts.{row_count, facts_in}
use Rattle.place_cells.specs.Cells.{place_length}

-- letters from a place: the cells that they lead to, and a word for each
pub record Ran (r : ℕ) (t letters : List ℕ) (from : Standing) (s s' given given' : List ℕ) (used : ℕ) : Type 0 where
  pub cells : cells_in s' used ≡ (after (facts_in t) r (letters_of letters) (from.rule, cells_in s from.used)).1
  pub answered : given' ≡ in_front (answers_bytes (map answer_word (answers (facts_in t) r (letters_of letters) (from.rule, cells_in s from.used)))) given
  pub within : Within cell_length (length t + row_length) s s'
  pub few : cell_length * (used + 1) ≤ place_length (row_count t)

-- a word of answers for each letter
abbrev pub Answerable : List ℕ → List ℕ → Type 0
Answerable letters given = answer_length * length letters ≤ length given
