-- What a plan is turned down for comes first, whatever the list is. Assumes nothing.
use Rattle.std.specs.Prelude.{Result, Ok, Err}
use mathlib.Core.Path.{◌≡◌, refl}
use Rattle.refusal.specs.declared.Refusal.{Refusal}
use Rattle.list_judge.specs.Listed.{list_judged}

pub refused-first : (c : Result Unit Refusal) (why : Refusal) → Err why ≡ list_judged c (Err why)
unfolding list_judged
refused-first (Ok _) why = refl
refused-first (Err other) why = refl
