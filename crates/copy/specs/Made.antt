-- What is asked where nothing is turned down.
use Rattle.std.specs.Prelude.{ℕ, ◌≤◌, true, List, ◌≡◌, length, Ok}
use Rattle.plan.specs.Check.{checked}
use Rattle.forest.specs.Outcome.{enough_work}
use Rattle.label_rows.specs.declared.LabelRow.{LabelRow}
use Rattle.label_rows.specs.Coverage.{coverage}
use Rattle.copy_variants.specs.Variants.{most_copied}
use Rattle.copy_plan.specs.Bytes.{copy_room}

-- an accepted plan of few rules, a sound list, and enough work and output
pub record Makeable (s : List ℕ) (rows : List LabelRow) (n start : ℕ) (work out : List ℕ) : Type 0 where
  pub accepted : checked s ≡ Ok (record { n = n; start = start })
  pub sound : coverage rows ≡ Ok tt
  pub few : n ≤ most_copied
  pub enough : enough_work n work ≡ true
  pub space : copy_room n ≤ length out
