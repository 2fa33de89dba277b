-- The rules of a narrow plan are judged by their four words, as document 01 has it: their records have no fifth word, so each means what
-- document 01's table of kinds says (rule/proofs/Narrow), and rules and judgement go by what records mean. What Note 1 changed, that a
-- rule may name a higher one and none reach itself, is as it is for all plans. Assumes nothing.
use Rattle.std.specs.Prelude.{Result}
use Rattle.refusal.specs.declared.Refusal.{Refusal}
use Prim.Native.Nat.{ℕ, zero, suc, ◌+◌}
use mathlib.Core.Path.{◌≡◌, refl, ap, ap₂}
use mathlib.Core.List.{List, [], ◌∷◌, map}
use lib.ListN.{length}
use Rattle.words.specs.Number.{number}
use Rattle.record.specs.declared.Format.{Format}
use Rattle.record.specs.declared.Record.{Record}
use Rattle.record.specs.Format.{high_length, length_of_record}
use Rattle.record.specs.Record.{record_at}
use Rattle.record.specs.Records.{records_from, record_in}
use Rattle.rule.specs.declared.Rule.{Rule}
use Rattle.rule.specs.Rule.{decode, rule_of, rules_in}
use Rattle.rule.proofs.Narrow.{decode_before, narrow-as-before}
use Rattle.reach.specs.Reaches.{lowest_cycle}
use Rattle.judge.specs.Judge.{names_judged, and_then, rules_judged, cycle_judged, start_judged, judged}

-- the rules of records by document 01's table
pub rules_narrow : List Record → List Rule
rules_narrow ws = map (λ (w : Record). rule_of (decode_before w)) ws

-- refusals 4 to 7 and 12 by it
each_narrow : List Record → Result Unit Refusal → ℕ → ℕ → Result Unit Refusal
each_narrow ws last i zero = last
each_narrow ws last i (suc m) = and_then (names_judged ws i (decode_before (record_in ws i))) (each_narrow ws last (suc i) m)

pub judged_narrow : List Record → ℕ → Result Unit Refusal
judged_narrow ws start = each_narrow ws (cycle_judged (lowest_cycle (rules_narrow ws)) (start_judged ws start)) 0 (length ws)

-- n narrow rules that stand in bytes from an offset on
module _ (s : List ℕ) where
  pub narrow-rules : (at n : ℕ) → rules_in Format.Narrow (records_from Format.Narrow s at n) ≡ rules_narrow (records_from Format.Narrow s at n)
  unfolding rules_in rules_narrow records_from
  narrow-rules at zero = refl
  narrow-rules at (suc n) = ap₂ ◌∷◌ (ap rule_of (narrow-as-before s at)) (narrow-rules (at + length_of_record Format.Narrow) n)

  narrow-record : (at n i : ℕ) → decode Format.Narrow (record_in (records_from Format.Narrow s at n) i)
      ≡ decode_before (record_in (records_from Format.Narrow s at n) i)
  unfolding records_from record_in record_at high_length number
  narrow-record at zero i = narrow-as-before [] 0
  narrow-record at (suc n) zero = narrow-as-before s at
  narrow-record at (suc n) (suc i) = narrow-record (at + length_of_record Format.Narrow) n i

  pub narrow-judged : (at n start : ℕ) → judged Format.Narrow (records_from Format.Narrow s at n) start
      ≡ judged_narrow (records_from Format.Narrow s at n) start
  unfolding judged judged_narrow each_narrow
  narrow-judged at n start = rw (narrow-rules at n) (each (cycle_judged (lowest_cycle (rules_narrow ws)) (start_judged ws start)) 0 (length ws))
    where
      ws : List Record
      ws = records_from Format.Narrow s at n

      each : (last : Result Unit Refusal) (i m : ℕ) → rules_judged Format.Narrow ws last i m ≡ each_narrow ws last i m
      each last i zero = refl
      each last i (suc m) = ap₂ and_then (ap (names_judged ws i) (narrow-record at n i)) (each last (suc i) m)
