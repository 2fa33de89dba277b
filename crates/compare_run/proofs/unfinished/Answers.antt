-- The count is tested first, then each stack. Assumes nothing.
use mathlib.Core.Path.{◌≡◌, sym}
use lib.Dec.{eqb}
use borrow.Author.Tests.{not-true, not-false, eqb-true, eqb-false}
use mathlib.Core.Bool.{false≢true}
use native.Mathlib.Omega.{arith}
use Rattle.compare_run.proofs.unfinished.Goals as goal

pub returns-then-budget-at : goal.returns-then-budget-at
returns-then-budget-at c = (λ q. absurd (false≢true q), λ q l. absurd (omega arith))

pub returns-then-at-ne0 : goal.returns-then-at-ne0
returns-then-at-ne0 c = (λ q. (omega arith, omega arith), λ q l. absurd (false≢true (sym q)))

pub returns : goal.returns
returns c = let a = c.args in (
  λ q. let some : a.at.two ≡ 0 → ⊥ = eqb-false a.at.two 0 (not-true (eqb a.at.two 0) q) in (omega arith, omega (arith, some)),
  λ q l. (omega arith, eqb-true a.at.two 0 (not-false (eqb a.at.two 0) q)),
)
