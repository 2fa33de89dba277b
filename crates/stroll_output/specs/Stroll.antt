-- What stroll prints, from the bytes of the plan's file and of standard input (document 01, "One sample plan").
use Rattle.std.specs.Prelude.{ℕ, cond, List, [], length, leb, Result, Ok, Err}
use Rattle.std.specs.Prelude.{Option, None, Some}
use Rattle.refusal.specs.declared.Refusal.{Refusal}
use Rattle.plan.specs.declared.Checked.{Checked}
use Rattle.plan.specs.Check.{checked_up_to, rules_of}
use Rattle.forest.specs.Forest.{Forest, forest}
use Rattle.forest.specs.Reference.{answers}
use Rattle.forest.specs.Walk.{letters_of, first_other}
use Rattle.stroll_line.specs.Lines.{lines, refused_line}

-- "file plan.bin (at most 16,384 bytes) and letters from standard input (at most 4,096 ..)"
abbrev pub most_plan : ℕ
most_plan = 16384

abbrev pub most_letters : ℕ
most_letters = 4096

-- document 02, Note 3: "The table-top reader's program, stroll, keeps its own limit of 1,024 .. at the point where check tests n"
abbrev pub most_strolled : ℕ
most_strolled = 1024

-- "The walk begins above the forest": the answers are those of the reference walker (document 01's finger) on the forest
-- from the empty path on; a byte that is no letter is 9, and there is no other refusal
unfoldable pub walk_printed : Forest ℕ → List ℕ → Option ℕ → List ℕ
walk_printed g letters None = lines letters (answers g (letters_of letters) [])
walk_printed g letters (Some i) = refused_line (Refusal.Letter i)

-- "either input too long counts as 8 at 0 .. the letters' after the check"
unfoldable pub check_printed : List ℕ → List ℕ → Result Checked Refusal → List ℕ
check_printed plan letters (Ok x) =
    cond (leb (length letters) most_letters)
    (walk_printed (forest (rules_of plan) x.start) letters (first_other letters 0))
    (refused_line Refusal.Lent)
check_printed plan letters (Err r) = refused_line r

-- ".. the plan's before all else"
unfoldable pub stroll_output : List ℕ → List ℕ → List ℕ
stroll_output plan letters = cond (leb (length plan) most_plan) (check_printed plan letters (checked_up_to most_strolled plan)) (refused_line Refusal.Lent)
