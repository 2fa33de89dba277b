-- What the test of one rule and of all rules comes to in the code, which also sees whether a rule names only lower ones.
use Rattle.std.specs.Prelude.{ℕ, ◌+◌, ◌*◌, ◌≤◌, ◌≡◌, Bool, true, false, cond, List, length, ltb, Result, Ok, Err, Option, Some, None}
use Rattle.rule.specs.declared.Rule.{Rule}
use Rattle.refusal.specs.declared.Refusal.{Refusal}
use Rattle.record.specs.declared.Format.{Format}
use Rattle.record.specs.declared.Record.{Record}
use Rattle.record.specs.Format.{length_of_record}
use Rattle.record.specs.Records.{records_from, record_in, kind_at}
use Rattle.rule.specs.Rule.{decode, every, sorts, rules_in}
use Rattle.reach.specs.Order.{Lower}
use Rattle.judge.specs.Judge.{rules_judged}

-- the most rules that a search for a rule that reaches itself has room for
abbrev pub most_searched : ℕ
most_searched = 16384

-- the first of 4, 5 and 6 whose test failed; else whether the rule names only lower ones
unfoldable pub verdict : ℕ → Bool → Bool → Bool → Bool → Result Bool Refusal
verdict i formed ranged sorted lower =
    cond formed
    (cond ranged
    (cond sorted (Ok lower) (Err (Refusal.WrongSort i)))
    (Err (Refusal.NoRule i)))
    (Err (Refusal.Malformed i))

-- the test of rule i, from what its record means
unfoldable pub tested_of : List Record → ℕ → Option Rule → Result Bool Refusal
tested_of ws i None = Err (Refusal.Malformed i)
tested_of ws i (Some r) = verdict i true (every (λ x. ltb x (length ws)) r) (sorts (kind_at ws) r) (every (λ x. ltb x i) r)

abbrev pub tested : Format → List Record → ℕ → Result Bool Refusal
tested f ws i = tested_of ws i (decode f (record_in ws i))

-- all rules pass 4 to 6: what comes after them decides
abbrev pub Passed : Format → List Record → Type 0
Passed f ws = (last : Result Unit Refusal) → rules_judged f ws last 0 (length ws) ≡ last

-- what the test of all rules says: they pass, and name only lower ones; they pass; or the first refusal, whatever would come after
unfoldable pub Tells : Format → List Record → Result Bool Refusal → Type 0
Tells f ws (Ok true) = Passed f ws × Lower (rules_in f ws)
Tells f ws (Ok false) = Passed f ws
Tells f ws (Err why) = (last : Result Unit Refusal) → rules_judged f ws last 0 (length ws) ≡ Err why

-- rules that lie in the slice, pass 4 to 6 and are not too many for a search
pub record Searchable (f : Format) (s : List ℕ) (first n : ℕ) : Type 0 where
  pub lies : first + length_of_record f * n ≤ length s
  pub few : n ≤ most_searched
  pub passed : Passed f (records_from f s first n)
