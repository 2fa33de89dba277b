-- What the functions of stroll ask and ensure.
use Rattle.std.specs.Prelude.{ℕ, ◌*◌, ◌≤◌, ◌≡◌, List, length, take, Result, Ok, Err}
use Rattle.plan.specs.Check.{checked_up_to}
use Rattle.refusal.specs.declared.Refusal.{Refusal}
use Rattle.stroll_line.specs.Lines.{line_length, lines, refused_line}
use Rattle.stroll_line.specs.Said.{answers_from}
use Rattle.words.specs.Front.{in_front}
use Rattle.stroll_output.specs.Stroll.{most_letters, most_strolled, check_printed}

-- check accepts the plan, up to stroll's limit
pub record Accepted (plan : List ℕ) : Type 0 where
  pub n : ℕ
  pub start : ℕ
  pub accepted : checked_up_to most_strolled plan ≡ Ok (record { n = n; start = start })

-- and the letters are not too many
pub record Strollable (plan letters : List ℕ) : Type 0 where
  pub accepted : Accepted plan
  pub few : length letters ≤ most_letters

-- what the walk from above comes to: the words of answers say the lines to print, none of them too long, or the refusal is the line
pub record Strolled (plan letters : List ℕ) (x : Result Unit Refusal) (given : List ℕ) : Type 0 where
  pub said : x ≡ Ok tt → lines letters (answers_from (length letters) given 0) ≡ check_printed plan letters (checked_up_to most_strolled plan)
  pub short : x ≡ Ok tt → length (lines letters (answers_from (length letters) given 0)) ≤ line_length * length letters
  pub refused : (why : Refusal) → x ≡ Err why → refused_line why ≡ check_printed plan letters (checked_up_to most_strolled plan)

-- a text at the front of the output, whose later bytes stay, and its length; the last two fields follow, for who lends the text on
pub record Printed (text s t : List ℕ) (m : ℕ) : Type 0 where
  pub front : t ≡ in_front text s
  pub counts : m ≡ length text
  pub within : m ≤ length t
  pub taken : m ≡ length (take m t)
