-- What the functions of pages ask and ensure.
use Rattle.std.specs.Prelude.{ℕ, ◌+◌, ◌<◌, ◌≤◌, ◌≡◌, List, [], length, drop, replicate, Ok}
use Rattle.std.specs.Prelude.{None}
use Rattle.plan.specs.Check.{checked_up_to, rules_of}
use Rattle.forest.specs.Forest.{forest}
use Rattle.forest.specs.Reference.{Path, answers}
use Rattle.forest.specs.Walk.{letters_of, first_other}
use Rattle.demand.specs.Calls.{Left, Call, lends, walk_of, cursor_after_calls}
use Rattle.demand.specs.Demand.{turned_down, finger_path}
use Rattle.stroll_output.specs.Stroll.{most_strolled}
use Rattle.page_line.specs.Page.{page_lines, most_number}
use Rattle.page_output.specs.Pages.{most_logged, pages_from, pages_output}

-- bytes of work and of a cursor for the most rules, and of the answers of a page
abbrev pub most_work : ℕ
most_work = 65536

abbrev pub most_cursor : ℕ
most_cursor = 32800

abbrev pub page_answers : ℕ
page_answers = 200

-- what a walk by a part of the log answers and leaves
abbrev pub part_left : List ℕ → List ℕ → List ℕ → List ℕ → Left
part_left plan cursor letters given = walk_of (lends plan (replicate most_work 0) cursor letters given)

-- a cursor that some calls left, the first of them on a cursor of zeros, and the path of the reference walker then
pub record Walking (plan : List ℕ) (n start : ℕ) (cursor : List ℕ) (path : Path) : Type 0 where
  pub accepted : checked_up_to most_strolled plan ≡ Ok (record { n = n; start = start })
  pub calls : List Call
  pub left : cursor ≡ cursor_after_calls walk_of plan (replicate most_cursor 0) calls
  pub there : path ≡ finger_path (forest (rules_of plan) start) (turned_down n (replicate most_cursor 0)) calls []

-- the letters of a page, from number first on, and a cursor that stands somewhere
pub record Ready (plan cursor : List ℕ) (first : ℕ) (letters : List ℕ) : Type 0 where
  pub n : ℕ
  pub start : ℕ
  pub path : Path
  pub walking : Walking plan n start cursor path
  pub few : length letters ≤ page_lines
  pub every_letter : first_other letters 0 ≡ None
  pub numbers : first + length letters ≤ most_number + 1

-- a plan and a log that are not refused, and what is printed then
pub record Printable (plan log : List ℕ) : Type 0 where
  pub n : ℕ
  pub start : ℕ
  pub accepted : checked_up_to most_strolled plan ≡ Ok (record { n = n; start = start })
  pub few : length log ≤ most_logged
  pub every_letter : first_other log 0 ≡ None
  pub prints : pages_output plan log ≡ pages_from 1 log (answers (forest (rules_of plan) start) (letters_of log) [])

-- where a page ends that begins at a letter: after fifty letters, or with the log
pub record Ends (count at end : ℕ) : Type 0 where
  pub more : at < end
  pub within : end ≤ count
  pub few : end ≤ at + page_lines
  pub last : end < at + page_lines → end ≡ count

-- before the page that begins behind so many letters, when so many bytes were printed: the cursor stands where the letters led, and the
-- pages from there on are left
pub record Page (plan log : List ℕ) (n start : ℕ) (cursor : List ℕ) (at done : ℕ) : Type 0 where
  pub path : Path
  pub walking : Walking plan n start cursor path
  pub left : drop done (pages_output plan log) ≡ pages_from (at + 1) (drop at log) (answers (forest (rules_of plan) start) (letters_of (drop at log)) path)
