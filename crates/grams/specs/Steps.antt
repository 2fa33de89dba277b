-- What the steps of grams ask and leave, by what was judged of plan, list and work.
use Rattle.std.specs.Prelude.{ℕ, ◌*◌, ◌≤◌, ◌<◌, ◌≡◌, List, length, Result, Ok, Err}
use Rattle.refusal.specs.declared.Refusal.{Refusal}
use Rattle.record.specs.Format.{word_length}
use Rattle.plan.specs.declared.Checked.{Checked}
use Rattle.forest.specs.Expression.{Expression}
use Rattle.forest.specs.Outcome.{work_words, cleared}
use Rattle.count_passes.specs.Tally.{Ready, Unfolds}
use Rattle.count_weights.specs.Weights.{WeightColumn, weight_in}
use Rattle.grams.specs.Grams.{sum_judged}

-- the number of rules that were loaded
unfoldable pub loaded_rules : Result Checked Refusal → ℕ
loaded_rules (Ok x) = x.n
loaded_rules (Err why) = 0

-- n rules are in the rows, and the work reaches as far as it is cleared
pub record Summable (t : List ℕ) (n start : ℕ) : Type 0 where
  pub ready : Ready t n
  pub below : start < n
  pub words : word_length * work_words n ≤ length t

pub record Answerable (t : List ℕ) (x : Result Checked Refusal) : Type 0 where
  pub rows : (n start : ℕ) → x ≡ Ok (record { n = n; start = start }) → Summable t n start

-- the start rule's sum is judged, of any weight that the rows' words are and whatever expressions unfold the rules; the work is cleared
pub record SumGiven (n start : ℕ) (t u : List ℕ) (y : Result ℕ Refusal) : Type 0 where
  pub clears : u ≡ cleared (word_length * work_words n) t
  pub sum : (w : ℕ → ℕ) → WeightColumn w t n → (E : ℕ → Expression) → Unfolds t n E → y ≡ sum_judged (weight_in w (E start))

pub record Answered (t u : List ℕ) (x : Result Checked Refusal) (y : Result ℕ Refusal) : Type 0 where
  pub given : (n start : ℕ) → x ≡ Ok (record { n = n; start = start }) → SumGiven n start t u y
  pub refused : (why : Refusal) → x ≡ Err why → (y ≡ Err why) × (u ≡ t)
