-- What stands behind the test of a plan and of what is lent with it.
use Rattle.std.specs.Prelude.{ℕ, ◌*◌, ◌≤◌, ◌≡◌, List, length, Ok}
use Rattle.plan.specs.Check.{checked}
use Rattle.record.specs.Format.{word_length}
use Rattle.forest.specs.Outcome.{work_words}
use Rattle.work_rows.specs.Rows.{work_length}
use Rattle.place_cells.specs.Cells.{cursor_length}

-- an accepted plan of n rules, and enough of work and cursor
pub record Judged (plan : List ℕ) (n start : ℕ) (work cursor : List ℕ) : Type 0 where
  pub accepted : checked plan ≡ Ok (record { n = n; start = start })
  pub worked : work_length * n ≤ length work
  pub words : word_length * work_words n ≤ length work
  pub room : cursor_length n ≤ length cursor
