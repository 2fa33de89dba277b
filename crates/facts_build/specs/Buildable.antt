-- What building asks: the rows of sound rules, and behind them an order in which each rule stands after those that it names.
use Rattle.std.specs.Prelude.{ℕ, ◌≤◌, List, length}
use Rattle.rule.specs.Sound.{Sound}
use Rattle.reach.specs.Order.{Orders}
use Rattle.work_rows.specs.Rows.{first_rules}
use Rattle.work_rows.specs.Order.{order_end, order_in}

pub record Buildable (n : ℕ) (t : List ℕ) : Type 0 where
  pub room : order_end n ≤ length t
  pub rank : ℕ → ℕ
  pub sound : Sound (first_rules t n) rank
  pub orders : Orders (first_rules t n) (order_in t n)
