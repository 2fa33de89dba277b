-- What the C interface gives for the client's copy, of which not all follows from what is lent (document 02, Note 6).
use Rattle.std.specs.Prelude.{ℕ, ◌≡◌, List, Result}
use Rattle.refusal.specs.declared.Refusal.{Refusal}
use Rattle.label_rows.specs.declared.LabelRow.{LabelRow}
use Rattle.copy.specs.Copy.{copy_judged, CopyOutcome}
use Rattle.c_result.specs.Interface.{written_gives, result_number, result_position, behind}

-- an answer with copy's outcome, given as numbers
pub record CopyGiven (s : List ℕ) (rows : List LabelRow) (class : ℕ) (work work' out out' : List ℕ) (written r written' position' : ℕ) : Type 0 where
  pub answer : Result ℕ Refusal
  pub outcome : CopyOutcome (copy_judged s rows class work out) s rows class work work' out out' answer
  pub result : r ≡ result_number (written_gives answer)
  pub length_given : written' ≡ behind 0 (written_gives answer) written
  pub position : position' ≡ result_position (written_gives answer)
