-- What may be read of a rule: the rows that it names, also of the rule that a match found. Assumes nothing.
use Prim.Native.Nat.{ℕ, ◌+◌, ◌*◌, ◌≤◌}
use native.Mathlib.Omega.{arith}
use mathlib.Core.Path.{◌≡◌}
use mathlib.Core.List.{List}
use lib.ListN.{length}
use Rattle.rule.specs.declared.Rule.{Rule}
use Rattle.rule.specs.Names.{Names}
use Rattle.work_rows.specs.Rows.{row_length}
use Rattle.count_capped.specs.Count.{count_length}
use Rattle.count_passes.specs.Tally.{NamedRows}

pub at-rule : {t : List ℕ} {x y : Rule} → x ≡ y → NamedRows t x → NamedRows t y
at-rule q h = rw q at h

pub named-row : {t : List ℕ} {x y : Rule} → x ≡ y → NamedRows t x → (k : ℕ) → Names y k → row_length * (k + 1) ≤ length t
named-row q h k m = (at-rule q h).named k m

-- a count of such a row
pub named_count : {t : List ℕ} {x y : Rule} (o : ℕ) → o + count_length ≤ row_length → x ≡ y → NamedRows t x → (k : ℕ) → Names y k
    → row_length * k + o + count_length ≤ length t
named_count o fits q h k m = omega (arith, named-row q h k m)
