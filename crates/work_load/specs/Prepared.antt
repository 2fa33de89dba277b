-- What every operation that is lent work begins with: the rules of an accepted plan with enough work are in the rows, and an order of them
-- behind; and what the answer x of loading says of it, behind what was judged. Refused, the work is as measure and spread leave it.
use Rattle.std.specs.Prelude.{ℕ, ◌*◌, ◌≤◌, ◌≡◌, true, List, length, Result, Ok, Err}
use Rattle.refusal.specs.declared.Refusal.{Refusal}
use Rattle.rule.specs.declared.Rule.{Rule}
use Rattle.plan.specs.declared.Checked.{Checked}
use Rattle.plan.specs.Check.{checked, rules_of}
use Rattle.forest.specs.Outcome.{enough_work, work_judged, work_after}
use Rattle.reach.specs.Order.{Orders}
use Rattle.work_rows.specs.Rows.{work_length, row_length, Holds, Within}
use Rattle.work_rows.specs.Order.{order_end, order_in}

-- an accepted plan of n rules, and work for them
pub record Arrangeable (s : List ℕ) (n : ℕ) (work : List ℕ) : Type 0 where
  pub start : ℕ
  pub accepted : checked s ≡ Ok (record { n = n; start = start })
  pub room : work_length * n ≤ length work

-- an order of the rules R behind the rows, and nothing but what is behind these has changed
pub record Ordered (R : List Rule) (n : ℕ) (t u : List ℕ) : Type 0 where
  pub order : Orders R (order_in u n)
  pub within : Within (row_length * n) (order_end n) t u

-- the rules R in the rows, and an order in which each comes after those that it names
pub record Arranged (R : List Rule) (n : ℕ) (t u : List ℕ) : Type 0 where
  pub rows : Holds R u n
  pub order : Orders R (order_in u n)
  pub within : Within 0 (work_length * n) t u

-- the rules of a plan s that is accepted, with enough work
pub record Loads (s work t : List ℕ) (n start : ℕ) : Type 0 where
  pub accepted : checked s ≡ Ok (record { n = n; start = start })
  pub enough : enough_work n work ≡ true
  pub arranged : Arranged (rules_of s) n work t

-- where a plan s was judged as j, check accepts it too
pub record Judged (s : List ℕ) (j : Result Checked Refusal) : Type 0 where
  pub accepts : (n start : ℕ) → j ≡ Ok (record { n = n; start = start }) → checked s ≡ Ok (record { n = n; start = start })

pub record Prepared (s work t : List ℕ) (j x : Result Checked Refusal) : Type 0 where
  pub answer : x ≡ work_judged work j
  pub judged : (n start : ℕ) → x ≡ Ok (record { n = n; start = start }) → j ≡ Ok (record { n = n; start = start })
  pub loaded : (n start : ℕ) → x ≡ Ok (record { n = n; start = start }) → Loads s work t n start
  pub refused : (r : Refusal) → x ≡ Err r → t ≡ work_after (λ n. enough_work n work) j work
