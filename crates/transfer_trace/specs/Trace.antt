-- A stored place's path (document 02, Note 12: "Take the old node's path"): what is asked of what is lent, and what the answer says.
use Rattle.std.specs.Prelude.{ℕ, ◌*◌, ◌≤◌, ◌<◌, ◌≡◌, true, false, List, [], ◌∷◌, length, Result, Ok, Err, Option, Some, None}
use Rattle.refusal.specs.declared.Refusal.{Refusal}
use Rattle.plan.specs.Check.{checked}
use Rattle.forest.specs.Reference.{Path}
use Rattle.forest.specs.Walk.{Begun}
use Rattle.work_rows.specs.Rows.{work_length}
use Rattle.place_cells.specs.Cells.{cursor_length}
use Rattle.place_open.specs.Open.{Openable}
use Rattle.transfer_path.specs.Follow.{carried}
use Rattle.transfer_climb.specs.Climb.{CountedRows, levels_in, path_length}

-- "the place among siblings, from 1": no number of a path is 0
unfoldable pub Counting : Path → Type 0
Counting [] = Unit {0}
Counting (i ∷ p) = (0 < i) × Counting p

-- the rows of n rules with their trees, enough of the cursor, and room for the path
pub record Climbable (start n : ℕ) (t cursor path : List ℕ) : Type 0 where
  pub openable : Openable start n t cursor
  pub counted : CountedRows t
  pub room : path_length ≤ length path

-- an accepted plan of n rules, with enough of work and cursor, and room for the path
pub record Traceable (plan : List ℕ) (n start : ℕ) (work cursor path : List ℕ) : Type 0 where
  pub accepted : checked plan ≡ Ok (record { n = n; start = start })
  pub worked : work_length * n ≤ length work
  pub placed : cursor_length n ≤ length cursor
  pub room : path_length ≤ length path

-- the place's path is written, or is too far
pub record PathFrom (b : Begun) (path : List ℕ) (y : Option ℕ) : Type 0 where
  pub count : ℕ
  pub walked : ℕ
  pub at : Path
  pub begun : b ≡ Begun.at count walked at
  pub counting : Counting at
  pub levels : (l : ℕ) → y ≡ Some l → (levels_in path l ≡ at) × (carried at ≡ true)
  pub far : y ≡ None → carried at ≡ false

-- what the answer says of a place that is judged as b
pub record Origins (b : Begun) (path path' : List ℕ) (x : Result (Option ℕ) Refusal) : Type 0 where
  pub same_length : length path' ≡ length path
  pub from : (y : Option ℕ) → x ≡ Ok y → PathFrom b path' y
  pub refused : (why : Refusal) → x ≡ Err why → b ≡ Begun.refused why
