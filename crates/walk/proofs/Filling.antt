-- The table that walk stands on is that of the plan's rules. Assumes nothing.
use Rattle.std.specs.Prelude.{Result}
use Rattle.refusal.specs.declared.Refusal.{Refusal}
use Prim.Native.Nat.{ℕ, ◌*◌}
use native.Mathlib.Omega.{arith}
use mathlib.Core.Path.{◌≡◌}
use mathlib.Core.List.{List}
use lib.ListN.{length, take}
use lib.Seq.{length-take-le}
use Rattle.plan.specs.Check.{rules_of, most_rules}
use Rattle.plan.proofs.Sound.{Plan, checked-plan}
use Rattle.forest.specs.Walk.{place_judged}
use Rattle.work_rows.specs.Rows.{work_length, row_length, Within}
use Rattle.work_load.specs.Prepared.{Arrangeable}
use Rattle.letter_moves.specs.Standing.{rules_kept}
use Rattle.facts_load.specs.Filled.{Filled}
use Rattle.facts_load.proofs.Filling.{walked-rows}
use Rattle.walk.specs.Calls.{Lendable}
use Rattle.walk_place.specs.Travel.{Travels, Walks}

-- the table that is walked on, in the first rows of the work
module _ {s : List ℕ} {n start : ℕ} {work cursor letters given : List ℕ} (L : Lendable s n start work cursor letters given) where
  pub arrangeable : Arrangeable s n work
  arrangeable = record { start = start; accepted = L.accepted; room = L.worked }

  pub prefix-long : {t : List ℕ} → Within 0 (work_length * n) work t → length (take (row_length * n) t) ≡ row_length * n
  prefix-long {t} w = let room = L.worked in let same = w.same_length in length-take-le (row_length * n) t (omega arith)

  whole : Plan most_rules s n start
  whole = checked-plan s n start L.accepted

  module _ {t : List ℕ} (f : Filled (rules_of s) t) (long : length t ≡ row_length * n) where
    pub travels : Travels start n t cursor letters given
    travels =
        record {
          place =
              record {
                rows = walked-rows whole.sound whole.ends f;
                count = omega arith;
                room = L.room;
              };
          whole = long;
          few = let most = whole.greatest in omega arith;
          answerable = L.answerable;
        }

    pub walks-on : {cursor' given' : List ℕ} {x : Result Unit Refusal} → Walks (rules_kept t) (place_judged (rules_kept t) n start cursor) letters cursor cursor' given given' x
        → Walks (rules_of s) (place_judged (rules_of s) n start cursor) letters cursor cursor' given given' x
    walks-on w = rw f.rules at w
