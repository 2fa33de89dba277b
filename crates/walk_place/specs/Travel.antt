-- What a walk from the stored place begins with, answers and leaves.
use Rattle.std.specs.Prelude.{ℕ, ◌*◌, ◌<◌, ◌≡◌, List, length, Result}
use Rattle.refusal.specs.declared.Refusal.{Refusal}
use Rattle.rule.specs.declared.Rule.{Rule}
use Rattle.forest.specs.Walk.{Begun, walked, cursor_after, answers_after}
use Rattle.work_rows.specs.Rows.{row_length}
use Rattle.place_cells.specs.Cells.{most_cells}
use Rattle.place_open.specs.Open.{Openable}
use Rattle.letter_run.specs.Ran.{Answerable}

-- the rows of n rules and no more, with enough of the cursor and of answers; cells are numbered by words
pub record Travels (r n : ℕ) (t cursor letters given : List ℕ) : Type 0 where
  pub place : Openable r n t cursor
  pub whole : length t ≡ row_length * n
  pub few : most_cells n < 65536
  pub answerable : Answerable letters given

-- what a call that begins as b answers and leaves of the cursor and the answers
pub record Walks (R : List Rule) (b : Begun) (letters cursor cursor' given given' : List ℕ) (x : Result Unit Refusal) : Type 0 where
  pub answer : x ≡ walked b
  pub cursor_left : cursor' ≡ cursor_after R b letters cursor
  pub answers_left : given' ≡ answers_after R b letters given
