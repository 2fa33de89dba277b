-- Equal answers of check have the same n and start. Assumes nothing.
use Rattle.std.specs.Prelude.{ℕ, ◌≡◌, Result, Ok, Err}
use mathlib.Core.Path.{ap}
use Rattle.refusal.specs.declared.Refusal.{Refusal}
use Rattle.plan.specs.declared.Checked.{Checked}

abbrev n_in : Result Checked Refusal → ℕ
n_in (Ok c) = c.n
n_in (Err e) = 0

abbrev start_in : Result Checked Refusal → ℕ
start_in (Ok c) = c.start
start_in (Err e) = 0

pub same-parts : {c : Checked} {n start : ℕ} → ◌≡◌ {A = Result Checked Refusal} (Ok c) (Ok (record { n = n; start = start })) → (c.n ≡ n) × (c.start ≡ start)
same-parts e = (ap n_in e, ap start_in e)
