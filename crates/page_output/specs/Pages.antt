-- What pages prints, from the bytes of the plan's file and of the log (document 02, Note 13).
use Rattle.std.specs.Prelude.{ℕ, ◌-◌, ◌%◌, cond, List, [], ◌++◌, length, leb, Result, Ok, Err}
use Rattle.std.specs.Prelude.{Option, None, Some}
use Rattle.refusal.specs.declared.Refusal.{Refusal}
use Rattle.plan.specs.declared.Checked.{Checked}
use Rattle.plan.specs.Check.{checked_up_to, start_of, rules_of}
use Rattle.forest.specs.Forest.{forest}
use Rattle.forest.specs.Reference.{answers}
use Rattle.forest.specs.Walk.{letters_of, first_other}
use Rattle.stroll_line.specs.Lines.{refused_line}
use Rattle.stroll_output.specs.Stroll.{most_plan, most_strolled}
use Rattle.page_line.specs.Page.{numbered, blank_lines, page_lines}

-- "A log over 999,999 letters"
abbrev pub most_logged : ℕ
most_logged = 999999

-- 9: "the first byte outside a z f l n p u s" (document 01, "Walk")
unfoldable pub other_judged : Option ℕ → Result Unit Refusal
other_judged None = Ok tt
other_judged (Some i) = Err (Refusal.Letter i)

-- "A log over 999,999 letters prints "refused 8 at 0", after the plan's check and before 9."
unfoldable pub log_judged : List ℕ → Result Unit Refusal
log_judged log = cond (leb (length log) most_logged) (other_judged (first_other log 0)) (Err Refusal.Lent)

unfoldable pub check_judged : List ℕ → Result Checked Refusal → Result Unit Refusal
check_judged log (Ok x) = log_judged log
check_judged log (Err r) = Err r

-- "The log is judged whole"; "The plan is limited as for stroll, in bytes and in rules"
unfoldable pub pages_judged : List ℕ → List ℕ → Result Unit Refusal
pages_judged plan log = cond (leb (length plan) most_plan) (check_judged log (checked_up_to most_strolled plan)) (Err Refusal.Lent)

-- how many lines the last page lacks; "no letters, no page"
unfoldable pub missing : ℕ → ℕ
missing m = (page_lines - m % page_lines) % page_lines

-- the lines of letters from number i on, and "the last [page] filled with lines of 40 blanks"; "nothing stands between pages"
unfoldable pub pages_from : ℕ → List ℕ → List (Option ℕ) → List ℕ
pages_from i log xs = numbered i log xs ++ blank_lines (missing (length log))

-- "a refusal is the one line that stroll prints"; else "the walk beginning above the forest": the answers are those of the reference walker
-- (document 01's finger) from the empty path on, "the letter's number from 1"
unfoldable pub judged_pages : List ℕ → List ℕ → Result Unit Refusal → List ℕ
judged_pages plan log (Ok _) = pages_from 1 log (answers (forest (rules_of plan) (start_of plan)) (letters_of log) [])
judged_pages plan log (Err r) = refused_line r

unfoldable pub pages_output : List ℕ → List ℕ → List ℕ
pages_output plan log = judged_pages plan log (pages_judged plan log)
