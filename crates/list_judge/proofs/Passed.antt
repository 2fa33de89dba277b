-- What is accepted behind a list was accepted before it, and the list is sound. Assumes nothing.
use Rattle.std.specs.Prelude.{Result, Ok, Err}
use Rattle.refusal.specs.declared.Refusal.{Refusal}
use Prim.Native.Nat.{ℕ}
use native.Mathlib.Omega.{arith}
use mathlib.Core.Path.{◌≡◌, refl}
use Rattle.plan.specs.declared.Checked.{Checked}
use Rattle.list_judge.specs.Listed.{list_judged}

pub list-passed : {n start : ℕ} (l : Result Unit Refusal) (c : Result Checked Refusal) → list_judged l c ≡ Ok (record { n = n; start = start }) → (l ≡ Ok tt) × (c ≡ Ok (record { n = n; start = start }))
unfolding list_judged
list-passed (Ok _) c e = (refl, e)
list-passed (Err why) (Ok x) e = let z : ◌≡◌ {A = ℕ} 0 1 = cc in absurd (omega arith)
list-passed (Err why) (Err first) e = let z : ◌≡◌ {A = ℕ} 0 1 = cc in absurd (omega arith)
