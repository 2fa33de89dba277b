-- ★ The whole output of stroll for the sample plan and afnnfnnnnununnn, as document 01 prints it, and the lines of refusals.
-- All but the longest line hold by computation. Assumes nothing.
use Prim.Native.Nat.{ℕ}
use native.Mathlib.Omega.{arith}
use mathlib.Core.Path.{◌≡◌, refl, ap}
use mathlib.Core.List.{List, [], ◌∷◌, ◌++◌, map}
use Rattle.std.specs.Prelude.{Some}
use Rattle.words.specs.Number.{number}
use Rattle.refusal.specs.declared.Refusal.{Refusal}
use Rattle.record.specs.Format.{high_length, most_label}
use Rattle.reach.specs.Reaches.{lowest_cycle, cycle_from, reaches, within, any_named}
use Rattle.judge.specs.Judge.{cycle_judged}
use Rattle.plan.specs.Check.{checked, rules_of}
use Rattle.forest.specs.Forest.{forest}
use Rattle.forest.specs.Letter.{letter_of}
use Rattle.forest.specs.Reference.{answers}
use Rattle.forest.specs.Walk.{and_letters, letters_of, other_at, first_other}
use Rattle.forest.specs.Sample.{sample}
use Rattle.decimal.specs.Decimal.{digits, decimal, decimal-one, decimal-more}
use Rattle.stroll_line.specs.Lines.{line_end, shown, line, lines, refused_line}
use Rattle.stroll_output.specs.Stroll.{walk_printed, check_printed, stroll_output}

-- afnnfnnnnununnn
abbrev pub letters : List ℕ
letters = 97 ∷ 102 ∷ 110 ∷ 110 ∷ 102 ∷ 110 ∷ 110 ∷ 110 ∷ 110 ∷ 117 ∷ 110 ∷ 117 ∷ 110 ∷ 110 ∷ 110 ∷ []

pub record Sample : Type 0 where
  -- ★ a 99, f 97, n 98, n 99, f 97, n 98, n 97, n 98, n -, u 99, n 98, u 99, n 97, n 98, n -
  pub whole : stroll_output sample letters ≡
      97 ∷ 32 ∷ 57 ∷ 57 ∷ 10 ∷ 102 ∷ 32 ∷ 57 ∷ 55 ∷ 10 ∷ 110 ∷ 32 ∷ 57 ∷ 56 ∷ 10 ∷ 110 ∷ 32 ∷ 57 ∷ 57 ∷ 10
      ∷ 102 ∷ 32 ∷ 57 ∷ 55 ∷ 10 ∷ 110 ∷ 32 ∷ 57 ∷ 56 ∷ 10 ∷ 110 ∷ 32 ∷ 57 ∷ 55 ∷ 10 ∷ 110 ∷ 32 ∷ 57 ∷ 56 ∷ 10
      ∷ 110 ∷ 32 ∷ 45 ∷ 10 ∷ 117 ∷ 32 ∷ 57 ∷ 57 ∷ 10 ∷ 110 ∷ 32 ∷ 57 ∷ 56 ∷ 10 ∷ 117 ∷ 32 ∷ 57 ∷ 57 ∷ 10
      ∷ 110 ∷ 32 ∷ 57 ∷ 55 ∷ 10 ∷ 110 ∷ 32 ∷ 57 ∷ 56 ∷ 10 ∷ 110 ∷ 32 ∷ 45 ∷ 10 ∷ []
  -- no letters, no line
  pub none : stroll_output sample [] ≡ []
  -- an absent file counts as empty: refused 1 at 0
  pub absent : stroll_output [] letters ≡ 114 ∷ 101 ∷ 102 ∷ 117 ∷ 115 ∷ 101 ∷ 100 ∷ 32 ∷ 49 ∷ 32 ∷ 97 ∷ 116 ∷ 32 ∷ 48 ∷ 10 ∷ []
  -- a line end among the letters: refused 9 at 1
  pub other : stroll_output sample (97 ∷ 10 ∷ []) ≡ 114 ∷ 101 ∷ 102 ∷ 117 ∷ 115 ∷ 101 ∷ 100 ∷ 32 ∷ 57 ∷ 32 ∷ 97 ∷ 116 ∷ 32 ∷ 49 ∷ 10 ∷ []
  -- refused 8 at 0
  pub long : refused_line Refusal.Lent ≡ 114 ∷ 101 ∷ 102 ∷ 117 ∷ 115 ∷ 101 ∷ 100 ∷ 32 ∷ 56 ∷ 32 ∷ 97 ∷ 116 ∷ 32 ∷ 48 ∷ 10 ∷ []
  -- 0, 9, 10, 255, 4095
  pub numbers : map decimal (0 ∷ 9 ∷ 10 ∷ 255 ∷ 4095 ∷ []) ≡ (48 ∷ []) ∷ (57 ∷ []) ∷ (49 ∷ 48 ∷ []) ∷ (50 ∷ 53 ∷ 53 ∷ []) ∷ (52 ∷ 48 ∷ 57 ∷ 53 ∷ []) ∷ []
  -- the longest line, a 16777215
  pub longest : line 97 (Some 16777215) ≡ 97 ∷ 32 ∷ 49 ∷ 54 ∷ 55 ∷ 55 ∷ 55 ∷ 50 ∷ 49 ∷ 53 ∷ 10 ∷ []

-- the digits of the largest label, one by one: as many steps as it has digits
eight-digits : decimal 16777215 ≡ 49 ∷ 54 ∷ 55 ∷ 55 ∷ 55 ∷ 50 ∷ 49 ∷ 53 ∷ []
eight-digits =
    rw (
      decimal-more 16777215 (omega arith),
      decimal-more 1677721 (omega arith),
      decimal-more 167772 (omega arith),
      decimal-more 16777 (omega arith),
      decimal-more 1677 (omega arith),
      decimal-more 167 (omega arith),
      decimal-more 16 (omega arith),
      decimal-one 1 (omega arith),
    )

longest-line : line 97 (Some 16777215) ≡ 97 ∷ 32 ∷ 49 ∷ 54 ∷ 55 ∷ 55 ∷ 55 ∷ 50 ∷ 49 ∷ 53 ∷ 10 ∷ []
unfolding line shown
longest-line = ap (λ (l : List ℕ). 97 ∷ 32 ∷ (l ++ (line_end ∷ []))) eight-digits

pub printed : Sample
unfolding stroll_output check_printed walk_printed refused_line lines line shown decimal digits checked high_length most_label cycle_judged lowest_cycle cycle_from reaches within any_named rules_of number forest answers letter_of and_letters letters_of other_at first_other
printed = record { whole = refl; none = refl; absent = refl; other = refl; long = refl; numbers = refl; longest = longest-line }
