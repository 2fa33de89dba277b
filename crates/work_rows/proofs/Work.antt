-- How an operation leaves the work: as it was where it refuses before 8 is passed; else its first words zeros, whatever was
-- written below their end before. And that an accepted plan's rules can be loaded into it. Assumes nothing.
use Rattle.std.specs.Prelude.{Result, Ok, Err}
use Prim.Native.Nat.{ℕ, ◌+◌, ◌-◌, ◌*◌, ◌/◌, ◌≤◌}
use native.Mathlib.Omega.{arith}
use mathlib.Core.Path.{◌≡◌, ap}
use mathlib.Core.Bool.{Bool, true, false}
use mathlib.Core.List.{List, ◌++◌}
use lib.ListN.{length, replicate}
use borrow.Author.Tests.{leb-true}
use Rattle.refusal.specs.declared.Refusal.{Refusal}
use Rattle.plan.specs.declared.Checked.{Checked}
use Rattle.record.specs.Record.{word_length, length_of_record}
use Rattle.record.specs.Records.{records_from}
use Rattle.rule.specs.Rule.{rules_in}
use Rattle.plan.specs.Check.{checked, rules_of, format_of, trailer_length, most_rules}
use Rattle.plan.proofs.Sound.{Plan, checked-plan, plan-long, plan-first, plan-records}
use Rattle.forest.specs.Outcome.{work_words, enough_work, cleared, work_after}
use Rattle.forest.proofs.WorkWords.{words-least}
use Rattle.work_rows.specs.Rows.{work_length, row_length, Within, Beyond}
use Rattle.work_rows.proofs.Rows.{within_wider}

-- the rows and what is behind them lie in the words that n rules need
pub work-least : (n : ℕ) → work_length * n ≤ word_length * work_words n
work-least n = let h = words-least n in omega arith

-- the bytes that enough work has
pub enough-words : (n : ℕ) (s : List ℕ) → enough_work n s ≡ true → word_length * work_words n ≤ length s
unfolding enough_work
enough-words n s t = let words : work_words n ≤ length s / 2 = leb-true (work_words n) (length s / 2) t in omega arith

pub enough-room : (n : ℕ) (s : List ℕ) → enough_work n s ≡ true → work_length * n ≤ length s
enough-room n s t = let a = enough-words n s t in let b = work-least n in omega arith

-- the first m bytes are cleared whatever they were
pub cleared-same : {m : ℕ} {s t : List ℕ} → Within 0 m s t → cleared m t ≡ cleared m s
unfolding cleared
cleared-same {m} w = ap (λ (l : List ℕ). replicate m 0 ++ l) w.same_after

-- the work at exit, behind what was judged; enough is the operation's test of 8
module _ (enough : ℕ → Bool) (j : Result Checked Refusal) (work : List ℕ) where
  pub work-refused : (r : Refusal) → j ≡ Err r → work ≡ work_after enough j work
  unfolding work_after
  work-refused r q = rw q

  module _ (n start : ℕ) (q : j ≡ Ok (record { n = n; start = start })) where
    pub work-lent : enough n ≡ false → work ≡ work_after enough j work
    unfolding work_after
    work-lent e = rw (q, e)

    pub work-cleared : enough n ≡ true → (t : List ℕ) → Within 0 (work_length * n) work t → cleared (word_length * work_words n) t ≡ work_after enough j work
    unfolding work_after
    work-cleared e t w = rw (q, e) (cleared-same (within_wider 0 (word_length * work_words n) (omega arith) (work-least n) w))

-- frames below the end of the words that are cleared
pub beyond-work : (n : ℕ) {s t : List ℕ} → Beyond n s t → Within 0 (work_length * n) s t
beyond-work n w = within_wider 0 (work_length * n) (omega arith) (omega arith) w

-- the plan and the work are long enough to load from and into, and what is loaded are the plan's rules
pub loadable : (s u : List ℕ) (n start : ℕ) → checked s ≡ Ok (record { n = n; start = start }) → work_length * n ≤ length u
    → (length_of_record (format_of s) * n + trailer_length ≤ length s) × (row_length * n ≤ length u)
loadable s u n start q enough = (plan-long most_rules s n start (checked-plan s n start q), omega arith)

pub rules-first : (s : List ℕ) (n start : ℕ) → Plan most_rules s n start → rules_in (format_of s) (records_from (format_of s) s (length s - trailer_length - length_of_record (format_of s) * n) n) ≡ rules_of s
unfolding rules_of
rules-first s n start p = rw (← (plan-first most_rules s n start p), ← (plan-records most_rules s n start p))
