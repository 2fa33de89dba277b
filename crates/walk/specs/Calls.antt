-- What is asked below walk's entry.
use Rattle.std.specs.Prelude.{ℕ, ◌*◌, ◌≤◌, ◌≡◌, List, length, Ok}
use Rattle.plan.specs.Check.{checked}
use Rattle.record.specs.Format.{word_length}
use Rattle.forest.specs.Outcome.{work_words}
use Rattle.work_rows.specs.Rows.{work_length}
use Rattle.place_cells.specs.Cells.{cursor_length}
use Rattle.letter_run.specs.Ran.{Answerable}

-- enough of all that is lent on an accepted plan of n rules
pub record Lendable (plan : List ℕ) (n start : ℕ) (work cursor letters given : List ℕ) : Type 0 where
  pub accepted : checked plan ≡ Ok (record { n = n; start = start })
  pub worked : work_length * n ≤ length work
  pub words : word_length * work_words n ≤ length work
  pub room : cursor_length n ≤ length cursor
  pub answerable : Answerable letters given
