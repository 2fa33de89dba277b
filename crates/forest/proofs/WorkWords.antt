-- The words of work that n rules need: 32 a rule of few rules, and between 32 and 40 a rule of any. Assumes nothing.
use Prim.Native.Nat.{ℕ, ◌*◌, ◌≤◌}
use native.Mathlib.Omega.{arith}
use mathlib.Core.Bool.{Bool, true, false, cond}
use mathlib.Core.Path.{◌≡◌}
use lib.Dec.{leb}
use borrow.Author.Tests.{le-leb}
use Rattle.forest.specs.Outcome.{few_rules, rule_work, many_work, work_words}

by_number : (n : ℕ) (b : Bool) → (rule_work * n ≤ cond b (rule_work * n) (many_work * n)) × (cond b (rule_work * n) (many_work * n) ≤ many_work * n)
by_number n true = (omega arith, omega arith)
by_number n false = (omega arith, omega arith)

pub words-least : (n : ℕ) → rule_work * n ≤ work_words n
unfolding work_words
words-least n = (by_number n (leb n few_rules)).0

pub words-most : (n : ℕ) → work_words n ≤ many_work * n
unfolding work_words
words-most n = (by_number n (leb n few_rules)).1

pub few_words : (n : ℕ) → n ≤ few_rules → work_words n ≡ rule_work * n
unfolding work_words
few_words n h = rw (le-leb n few_rules h)
