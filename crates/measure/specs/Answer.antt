-- What measure answers once the rules are loaded.
use Rattle.std.specs.Prelude.{ℕ, ◌*◌, ◌≡◌, List, Result}
use Rattle.refusal.specs.declared.Refusal.{Refusal}
use Rattle.forest.specs.declared.Measured.{Measured}
use Rattle.forest.specs.Expression.{Expression}
use Rattle.forest.specs.Algebra.{value}
use Rattle.forest.specs.Forest.{trees}
use Rattle.forest.specs.Outcome.{counted}
use Rattle.forest.specs.Good.{Sort, Good}
use Rattle.work_rows.specs.Rows.{work_length, Within}
use Rattle.count_passes.specs.Tally.{Unfolds}

-- the answer for rule r, whatever its expression, as long as it unfolds the rules in the rows and is closed
pub record Answered (n r : ℕ) (m : Result Measured Refusal) (s t : List ℕ) : Type 0 where
  pub within : Within 0 (work_length * n) s t
  pub answer : (E : ℕ → Expression) → Unfolds s n E → Good Sort.row (E r) → m ≡ counted (trees (value (E r)))
