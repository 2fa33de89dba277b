-- What the search for an order asks for, once all rules pass 4 to 6. Assumes nothing.
use Rattle.std.specs.Prelude.{Ok}
use mathlib.Core.Bool.{Bool, false}
use mathlib.Core.Path.{◌≡◌, subst}
use Rattle.record.specs.declared.RuleRecords.{RuleRecords}
use Rattle.record.specs.RuleRecords.{records_lent}
use Prim.Native.Nat.{ℕ, ◌*◌, ◌≤◌}
use mathlib.Core.List.{List}
use lib.ListN.{length}
use Rattle.record.specs.declared.Format.{Format}
use Rattle.record.specs.Records.{records_from}
use Rattle.reach_order.specs.Room.{Ready}
use Rattle.judge.specs.Tested.{most_searched, Tells, Searchable}
use Rattle.judge.proofs.Fit.{passed-ranged}

pub searched : {format : Format} {s : List ℕ} {first n : ℕ} {room : List ℕ} → Searchable format s first n → 4 * n ≤ length room → Ready format s first n room
searched {format} {s} {first} {n} S fits =
    record { lies = S.lies; few = S.few; ranged = passed-ranged format (records_from format s first n) S.passed; fits = fits }

-- the test of the rules told that they pass
pub searchable : (r : RuleRecords) {lower : Bool} → Tells r.format (records_lent r) (Ok lower) → lower ≡ false → r.n ≤ most_searched
    → Searchable r.format r.bytes.now r.first r.n
unfolding Tells
searchable r told f few =
    record { lies = r.lies; few = few; passed = subst (λ (b : Bool). Tells r.format (records_lent r) (Ok b)) f told }
