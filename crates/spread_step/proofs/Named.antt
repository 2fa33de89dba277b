-- What a step may read: the rows that a rule names. Assumes nothing.
use Prim.Native.Nat.{ℕ, ◌+◌, ◌*◌, ◌≤◌, ◌<◌}
use native.Mathlib.Omega.{arith}
use mathlib.Core.Path.{◌≡◌}
use mathlib.Core.List.{List}
use lib.ListN.{length}
use Rattle.rule.specs.declared.Rule.{Rule}
use Rattle.rule.specs.Names.{Names}
use Rattle.work_rows.specs.Rows.{row_length}
use Rattle.spread_step.specs.Task.{task_limit}
use Rattle.spread_step.specs.Step.{Steppable}

-- the rule that a match found
pub at-rule : {t : List ℕ} {r : ℕ} {x y : Rule} → x ≡ y → Steppable t r x → Steppable t r y
at-rule q h = rw q at h

pub named-room : {t : List ℕ} {r : ℕ} {x : Rule} → Steppable t r x → (k : ℕ) → Names x k → row_length * k + 32 ≤ length t
named-room h k m = omega (arith, (h.named k m).0)

pub named-few : {t : List ℕ} {r : ℕ} {x : Rule} → Steppable t r x → (k : ℕ) → Names x k → k < task_limit
named-few h k m = (h.named k m).1
