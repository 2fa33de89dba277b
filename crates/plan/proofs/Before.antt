-- "Plans with the old mark keep their forest, their texts and their places" (document 02, Note 2), of the plan. What has no wide mark is
-- checked as document 01 has it, by the mark 6D 70, a distance of 8 × n and its table of kinds, and its rules are those of that table;
-- forests and places are functions of the rules. What Notes 1 and 3 changed, the order of the rules and the limit, is as it is for all
-- plans. Assumes nothing.
use Rattle.std.specs.Prelude.{Result, Err}
use Prim.Native.Nat.{ℕ, ◌+◌, ◌*◌}
use mathlib.Core.Path.{◌≡◌, refl, ap}
use mathlib.Core.Bool.{Bool, true, false, cond, ◌&&◌, or-false}
use mathlib.Core.List.{List, [], ◌∷◌}
use lib.ListN.{length, drop}
use lib.Dec.{leb, eqb}
use Rattle.refusal.specs.declared.Refusal.{Refusal}
use Rattle.record.specs.declared.Format.{Format}
use Rattle.record.specs.declared.Record.{Record}
use Rattle.record.specs.Format.{high_length}
use Rattle.record.specs.Records.{records_from}
use Rattle.judge.proofs.Narrow.{rules_narrow, narrow-rules, judged_narrow, narrow-judged}
use Rattle.plan.specs.declared.Checked.{Checked}
use Rattle.plan.specs.Check.{trailer_length, at_mark, magic, trailer_at, count_of, start_of, distance_of, same, marked_as, marked, format_of, first_at, rules_of, accepted, in_limits, checked_up_to}

-- a plan's records, of eight bytes each
abbrev pub narrow_records : List ℕ → List Record
narrow_records s = records_from Format.Narrow s (first_at s) (count_of s)

-- the tests of the trailer as document 01 has them, and then what is judged of the rules; the largest n is a parameter
trailer_narrow : ℕ → List ℕ → Result Unit Refusal → Result Checked Refusal
trailer_narrow most s rules =
    cond (leb trailer_length (length s) && same (drop (trailer_at s + at_mark) s) (0x6d ∷ 0x70 ∷ []))
    (cond (in_limits most (count_of s))
    (cond (eqb (distance_of s) (8 * count_of s) && leb (distance_of s) (trailer_at s))
    (accepted (count_of s) (start_of s) rules)
    (Err Refusal.Distance))
    (Err Refusal.Count))
    (Err Refusal.Magic)

pub checked_narrow : ℕ → List ℕ → Result Checked Refusal
checked_narrow most s = trailer_narrow most s (judged_narrow (narrow_records s) (start_of s))

module _ (s : List ℕ) (narrow : format_of s ≡ Format.Narrow) where
  -- the rules of the plan, and so its forest and its places, are those that document 01's table gives for its records
  pub narrow-plan-rules : rules_of s ≡ rules_narrow (narrow_records s)
  unfolding rules_of
  narrow-plan-rules = rw narrow (narrow-rules s (first_at s) (count_of s))

  -- the mark is one of the two exactly when it is the old one
  narrow-marked : marked s ≡ same (drop (trailer_at s + at_mark) s) (0x6d ∷ 0x70 ∷ [])
  unfolding marked marked_as magic format_of
  narrow-marked = rw (not_wide (marked_as Format.Wide s) narrow) (or-false (marked_as Format.Narrow s))
    where
      not_wide : (b : Bool) → cond b Format.Wide Format.Narrow ≡ Format.Narrow → b ≡ false
      not_wide true e = cc
      not_wide false e = refl

  pub narrow-plan-checked : (most : ℕ) → checked_up_to most s ≡ checked_narrow most s
  unfolding checked_up_to checked_narrow trailer_narrow high_length
  narrow-plan-checked most = rw (narrow-marked, narrow) (ap (trailer_narrow most s) (narrow-judged s (first_at s) (count_of s) (start_of s)))
