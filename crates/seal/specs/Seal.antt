-- Document 01, "Seal"; document 02, Note 2 (wide plans).
use Rattle.std.specs.Prelude.{ℕ, ◌+◌, ◌*◌, ◌/◌, ◌%◌, Bool, cond, ◌&&◌, ◌||◌, List, length, leb, eqb, Result, Ok, Err}
use Rattle.words.specs.Number.{word_count}
use Rattle.record.specs.declared.Format.{Format}
use Rattle.record.specs.declared.Record.{Record}
use Rattle.refusal.specs.declared.Refusal.{Refusal}
use Rattle.record.specs.Format.{high_length, length_of_record, record_words}
use Rattle.record.specs.Records.{records_from}
use Rattle.judge.specs.Judge.{judged}
use Rattle.plan.specs.Check.{trailer_length, most_rules, in_limits, plan_bytes}
use Rattle.plan.specs.Written.{output_after}

-- Note 2: "Seal is told the record length": the format whose records have it
unfoldable pub format_for : ℕ → Format
unfolding high_length
format_for l = cond (eqb l (length_of_record Format.Wide)) Format.Wide Format.Narrow

-- Note 2: "any but 8 or 10 is refused"
unfoldable pub is_length : ℕ → Bool
unfolding high_length
is_length l = eqb l (length_of_record Format.Narrow) || eqb l (length_of_record Format.Wide)

-- the records of a slice of rule words, four words to a rule, or five in a wide plan
unfoldable pub given_count : Format → List ℕ → ℕ
given_count f words = word_count words / record_words f

unfoldable pub given : Format → List ℕ → List Record
unfolding records_from given_count
given f words = records_from f words 0 (given_count f words)

-- "It writes a plan without cover, gives its length": "11: output shorter than 8 × n + 10"
unfoldable pub roomed : ℕ → List ℕ → Result Unit Refusal → Result ℕ Refusal
roomed need out (Ok _) = cond (leb need (length out)) (Ok need) (Err Refusal.Room)
roomed need out (Err r) = Err r

-- "2: the words aren't four to a rule, or n is out of range; then 4 to 7; 11"; Note 2: "2, 3 and 11 follow the new lengths". The
-- largest n is a parameter
unfoldable pub sealed_up_to : ℕ → Format → List ℕ → ℕ → List ℕ → Result ℕ Refusal
unfolding given_count given in_limits judged roomed
sealed_up_to most f words start out =
    cond (eqb (word_count words % record_words f) 0 && in_limits most (given_count f words))
    (roomed (length_of_record f * given_count f words + trailer_length) out (judged f (given f words) start))
    (Err Refusal.Count)

-- Note 2: "Seal is told the record length, and any but 8 or 10 is refused with 1 first"
unfoldable pub sealed : List ℕ → ℕ → ℕ → List ℕ → Result ℕ Refusal
unfolding is_length format_for sealed_up_to
sealed words l start out = cond (is_length l) (sealed_up_to most_rules (format_for l) words start out) (Err Refusal.Magic)

-- the output at exit: the plan if accepted. "Refused, it writes nothing."
unfoldable pub output_as : Result ℕ Refusal → Format → List ℕ → ℕ → List ℕ → List ℕ
unfolding given plan_bytes output_after
output_as r f words start out = output_after r (plan_bytes f (given f words) start) out

unfoldable pub sealed_output : List ℕ → ℕ → ℕ → List ℕ → List ℕ
unfolding sealed format_for output_as
sealed_output words l start out = output_as (sealed words l start out) (format_for l) words start out
