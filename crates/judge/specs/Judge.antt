-- Document 01, "Check": refusals 4 to 7, of a plan's records and its start rule, and refusal 12 (document 02, Note 1).
use Rattle.std.specs.Prelude.{ℕ, zero, suc, cond, ◌&&◌, List, length, ltb, Result, Ok, Err}
use Rattle.rule.specs.declared.Rule.{Rule}
use Rattle.std.specs.Prelude.{Option, None, Some}
use Rattle.refusal.specs.declared.Refusal.{Refusal}
use Rattle.record.specs.declared.Format.{Format}
use Rattle.record.specs.declared.Record.{Record}
use Rattle.rule.specs.Rule.{decode, every, sorts, closed, rules_in}
use Rattle.reach.specs.Reaches.{lowest_cycle}
use Rattle.record.specs.Records.{record_in, kind_at}

-- "the first of: 4: kind above 5, label above 255, unused word not 0"; Note 2: "In a wide plan refusal 4 covers a fifth word that breaks
-- this"; Note 1: "Refusal 5 now means a named rule is not below n. A named rule of kind above 5 is of the wrong sort, so 6"; "6: names one
-- of the wrong sort"
unfoldable pub names_judged : List Record → ℕ → Option Rule → Result Unit Refusal
unfolding every sorts kind_at
names_judged ws i None = Err (Refusal.Malformed i)
names_judged ws i (Some r) =
    cond (every (λ x. ltb x (length ws)) r)
    (cond (sorts (kind_at ws) r) (Ok tt) (Err (Refusal.WrongSort i)))
    (Err (Refusal.NoRule i))

unfoldable pub rule_judged : Format → List Record → ℕ → Result Unit Refusal
unfolding names_judged decode record_in
rule_judged f ws i = names_judged ws i (decode f (record_in ws i))

-- the first of two judgements that is a refusal
unfoldable pub and_then : Result Unit Refusal → Result Unit Refusal → Result Unit Refusal
and_then (Ok _) later = later
and_then (Err r) later = Err r

-- "Then rules from 0 up, the first faulty one": m rules from i on, and after them last
unfoldable pub rules_judged : Format → List Record → Result Unit Refusal → ℕ → ℕ → Result Unit Refusal
unfolding rule_judged and_then
rules_judged f ws last i zero = last
rules_judged f ws last i (suc m) = and_then (rule_judged f ws i) (rules_judged f ws last (suc i) m)

-- "Last 7: start isn't below n or isn't closed."
unfoldable pub start_judged : List Record → ℕ → Result Unit Refusal
unfolding kind_at closed
start_judged ws start = cond (ltb start (length ws) && closed (kind_at ws start)) (Ok tt) (Err Refusal.Start)

-- Note 1: "12, some rule reaches itself; position the lowest such rule; after all rules pass 4 to 6, before 7"
unfoldable pub cycle_judged : Option ℕ → Result Unit Refusal → Result Unit Refusal
cycle_judged None later = later
cycle_judged (Some r) later = Err (Refusal.Cycle r)

-- refusals 4 to 7 and 12, which check and seal share
unfoldable pub judged : Format → List Record → ℕ → Result Unit Refusal
unfolding rules_judged cycle_judged lowest_cycle rules_in start_judged
judged f ws start = rules_judged f ws (cycle_judged (lowest_cycle (rules_in f ws)) (start_judged ws start)) 0 (length ws)
