-- Reason's answer and what it leaves, by the ways through its code: turned down by check or for what is lent, or past 8, after which the work
-- is cleared. Assumes nothing.
use Prim.Native.Nat.{ℕ, ◌*◌}
use native.Mathlib.Omega.{arith}
use mathlib.Core.Path.{◌≡◌}
use mathlib.Core.List.{List}
use Rattle.std.specs.Prelude.{Option, None, Some, Result, Ok, Err}
use Rattle.reasons.specs.declared.Reason.{Reason}
use lib.ListN.{length, take}
use lib.Seq.{length-take-le}
use Rattle.refusal.specs.declared.Refusal.{Refusal}
use Rattle.plan.specs.Check.{checked, rules_of, most_rules}
use Rattle.plan.proofs.Sound.{Plan, checked-plan}
use Rattle.record.specs.Format.{word_length}
use Rattle.forest.specs.Letter.{Letter, letter_of}
use Rattle.forest.specs.Outcome.{work_words, cleared}
use Rattle.forest.specs.Walk.{place_judged}
use Rattle.work_rows.specs.Rows.{work_length, row_length, Within}
use Rattle.letter_moves.specs.Standing.{rules_kept}
use Rattle.facts_load.specs.Filled.{Filled}
use Rattle.facts_load.proofs.Filling.{walked-rows}
use Rattle.place_open.specs.Open.{Openable}
use Rattle.walk_lent.specs.Judged.{Judged}
use Rattle.walk_lent.proofs.Judged.{work-kept, work-left}
use Rattle.reasons.specs.Outcome.{asked_judged, reasoned_at, reasoned_by, reasoned_from, reasoned, reasoned_work}

-- the table that the place is opened on, in the first rows of the work
module _ {s : List ℕ} {n start : ℕ} {work cursor : List ℕ} (L : Judged s n start work cursor) where
  pub prefix-long : {t : List ℕ} → Within 0 (work_length * n) work t → length (take (row_length * n) t) ≡ row_length * n
  prefix-long {t} w = let room = L.worked in let same = w.same_length in length-take-le (row_length * n) t (omega arith)

  whole : Plan most_rules s n start
  whole = checked-plan s n start L.accepted

  pub openable : {t : List ℕ} → Filled (rules_of s) t → length t ≡ row_length * n → Openable start n t cursor
  openable f long = record { rows = walked-rows whole.sound whole.ends f; count = omega arith; room = L.room }

-- on the rules of the plan
pub on-rules : (s : List ℕ) (n start : ℕ) (cursor : List ℕ) {t : List ℕ} → Filled (rules_of s) t → (c : Letter) {x : Result Reason Refusal}
    → x ≡ reasoned_at (rules_kept t) c (place_judged (rules_kept t) n start cursor) → x ≡ reasoned_at (rules_of s) c (place_judged (rules_of s) n start cursor)
on-rules s n start cursor f c e = rw f.rules at e

-- 9, and then the place
module _ (s : List ℕ) (n start : ℕ) (cursor : List ℕ) {l : Option Letter} where
  pub by-letter : {c : Letter} {x : Result Reason Refusal} → l ≡ Some c → x ≡ reasoned_at (rules_of s) c (place_judged (rules_of s) n start cursor)
      → x ≡ reasoned_by (rules_of s) l (place_judged (rules_of s) n start cursor)
  unfolding reasoned_by
  by-letter q e = rw q e

  pub no-letter : l ≡ None → Err (Refusal.Letter 0) ≡ reasoned_by (rules_of s) l (place_judged (rules_of s) n start cursor)
  unfolding reasoned_by
  no-letter q = rw q

module _ (s work cursor : List ℕ) (byte : ℕ) where
  pub turned_down_lem : {why : Refusal} → asked_judged work cursor (checked s) ≡ Err why
      → (Err why ≡ reasoned s work cursor byte) × (work ≡ reasoned_work s work cursor)
  unfolding reasoned reasoned_from reasoned_work
  turned_down_lem q = (rw q, work-kept work cursor (checked s) q)

  -- past 8
  pub finished : {n start : ℕ} → asked_judged work cursor (checked s) ≡ Ok (record { n = n; start = start }) → {x : Result Reason Refusal} {t u : List ℕ}
      → x ≡ reasoned_by (rules_of s) (letter_of byte) (place_judged (rules_of s) n start cursor)
      → Within 0 (work_length * n) work t → u ≡ cleared (word_length * work_words n) t
      → (x ≡ reasoned s work cursor byte) × (u ≡ reasoned_work s work cursor)
  unfolding reasoned reasoned_from reasoned_work
  finished q e w p = (rw q e, work-left s work cursor q w p)
