-- What the client's copy answers and leaves, from what is lent (document 02, Note 6).
use Rattle.std.specs.Prelude.{ℕ, ◌*◌, cond, ◌&&◌, List, ◌≡◌, length, leb, Result, Ok, Err}
use Rattle.refusal.specs.declared.Refusal.{Refusal}
use Rattle.words.specs.Front.{in_front}
use Rattle.record.specs.Format.{word_length}
use Rattle.rule.specs.declared.Rule.{Rule}
use Rattle.plan.specs.declared.Checked.{Checked}
use Rattle.plan.specs.Check.{checked, rules_of}
use Rattle.forest.specs.Outcome.{work_words, enough_work, cleared}
use Rattle.label_rows.specs.declared.LabelRow.{LabelRow}
use Rattle.label_rows.specs.Coverage.{coverage, largest_class}
use Rattle.list_judge.specs.Listed.{list_judged}
use Rattle.copy_variants.specs.Visible.{seen_by, most_copied}
use Rattle.copy_passes.specs.Copied.{Copied}
use Rattle.copy_plan.specs.Bytes.{copy_room, copy_bytes}

-- "A class above 3 is refused with 13 at position 0, before the list is read"
unfoldable pub class_judged : ℕ → Result Checked Refusal → Result Checked Refusal
class_judged class (Ok x) = cond (leb class largest_class) (Ok x) (Err (Refusal.Row 0))
class_judged class (Err why) = Err why

-- "Refused: 16, the plan has over 4,096 rules; after the list's check, before 8"
unfoldable pub count_judged : Result Checked Refusal → Result Checked Refusal
count_judged (Ok x) = cond (leb x.n most_copied) (Ok x) (Err Refusal.TooMany)
count_judged (Err why) = Err why

-- "Work is as in measure and output needs 40 × n + 10 bytes, else 8"
unfoldable pub lent_judged : List ℕ → List ℕ → Result Checked Refusal → Result Checked Refusal
lent_judged work out (Ok x) =
    cond (enough_work x.n work && leb (copy_room x.n) (length out)) (Ok x) (Err Refusal.Lent)
lent_judged work out (Err why) = Err why

-- n and start where the copy is made, or the first refusal
unfoldable pub copy_judged : List ℕ → List LabelRow → ℕ → List ℕ → List ℕ → Result Checked Refusal
copy_judged s rows class work out = lent_judged work out (count_judged (list_judged (coverage rows) (class_judged class (checked s))))

-- "Which rules stand for the forest is left free; what must hold of them anyway ..": some rules, with start rule top, that are a copy for
-- the client; check accepts the plan that they are written as, and reads them from it. "The length written is given, later bytes stay";
-- the work ends as zeros.
pub record Copies (s : List ℕ) (rows : List LabelRow) (class n start : ℕ) (work work' out out' : List ℕ) (x : Result ℕ Refusal) : Type 0 where
  pub rules : List Rule
  pub top : ℕ
  pub copied : Copied (seen_by rows class) (rules_of s) start rules top
  pub accepts : checked (copy_bytes rules top) ≡ Ok (record { n = (length rules); start = top })
  pub reads : rules_of (copy_bytes rules top) ≡ rules
  pub answer : x ≡ Ok (length (copy_bytes rules top))
  pub writes : out' ≡ in_front (copy_bytes rules top) out
  pub clears : work' ≡ cleared (word_length * work_words n) work

-- ".. and a refusal writes nothing": work and output are as they were
pub record CopyRefused (why : Refusal) (work work' out out' : List ℕ) (x : Result ℕ Refusal) : Type 0 where
  pub answer : x ≡ Err why
  pub work_stays : work' ≡ work
  pub out_stays : out' ≡ out

-- by what is judged of all that is lent
unfoldable pub CopyOutcome : Result Checked Refusal → List ℕ → List LabelRow → ℕ → List ℕ → List ℕ → List ℕ → List ℕ → Result ℕ Refusal → Type 0
CopyOutcome (Ok y) s rows class work work' out out' x = Copies s rows class y.n y.start work work' out out' x
CopyOutcome (Err why) s rows class work work' out out' x = CopyRefused why work work' out out' x
