-- What is answered for one rule, once the rules are loaded.
use Rattle.std.specs.Prelude.{ℕ, ◌*◌, ◌≤◌, ◌≡◌, Bool, List, length, leb, Result}
use Rattle.refusal.specs.declared.Refusal.{Refusal}
use Rattle.record.specs.declared.Format.{Format}
use Rattle.rule.specs.Sound.{Sound, Closed}
use Rattle.plan.specs.Written.{output_after}
use Rattle.forest.specs.Forest.{Forest, forest, weigh, one, text}
use Rattle.forest.specs.Outcome.{node_length, text_roomed}
use Rattle.reach.specs.Order.{Orders}
use Rattle.work_rows.specs.Rows.{Within, first_rules}
use Rattle.work_rows.specs.Order.{order_in}
use Rattle.count_all.specs.declared.Counts.{Counts}
use Rattle.count_all.specs.Counts.{forest_counts}
use Rattle.count_all.specs.Kept.{Keeps}
use Rattle.spread_step.specs.Task.{task_limit}
use Rattle.spread_stack.specs.Run.{work_end}

-- x tells whether the text of a forest fits, for whatever forest the counts are kept of
abbrev pub Fitting : Format → Counts → ℕ → Bool → Type 0
Fitting f c room x = (g : Forest ℕ) → Keeps c (forest_counts g) → x ≡ leb (node_length f * weigh one g) room

-- rule r of the rows can be measured and spread, whatever else the rows hold, with an order of the rules behind them
pub record Answerable (t : List ℕ) (n r : ℕ) : Type 0 where
  pub rank : ℕ → ℕ
  pub sound : Sound (first_rules t n) rank
  pub order : Orders (first_rules t n) (order_in t n)
  pub closed : Closed (first_rules t n) r
  pub few : n ≤ task_limit
  pub room : work_end n ≤ length t

-- what is answered for it
pub record Answered (f : Format) (n r : ℕ) (x : Result ℕ Refusal) (s t out out' : List ℕ) : Type 0 where
  pub answer : x ≡ text_roomed f (forest (first_rules s n) r) out
  pub writes : out' ≡ output_after x (text f (forest (first_rules s n) r)) out
  pub within : Within 0 (work_end n) s t
