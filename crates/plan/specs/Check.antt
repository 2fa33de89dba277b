-- Document 01, "A plan's bytes" (the trailer) and "Check"; document 02, Note 2 (wide plans).
use Rattle.std.specs.Prelude.{ℕ, ◌+◌, ◌-◌, ◌*◌, Bool, true, false, cond, ◌&&◌, ◌||◌, List, [], ◌∷◌, ◌++◌, length, drop, leb, eqb, Result, Ok, Err}
use Rattle.words.specs.Number.{number, bytes}
use Rattle.record.specs.declared.Format.{Format}
use Rattle.record.specs.declared.Record.{Record}
use Rattle.rule.specs.declared.Rule.{Rule}
use Rattle.refusal.specs.declared.Refusal.{Refusal}
use Rattle.plan.specs.declared.Checked.{Checked}
use Rattle.record.specs.Format.{length_of_record}
use Rattle.record.specs.Records.{records_from, records_bytes}
use Rattle.rule.specs.Rule.{rules_in}
use Rattle.judge.specs.Judge.{judged}

-- "a trailer of 10 bytes that points back: n (16 bits), start rule (16 bits), distance .. (32 bits), and the two mark bytes"
abbrev pub trailer_length : ℕ
trailer_length = 10

-- where the fields after n begin
abbrev pub at_start : ℕ
at_start = 2

abbrev pub at_distance : ℕ
at_distance = 4

abbrev pub at_mark : ℕ
at_mark = 8

-- "the two mark bytes 6D 70 hexadecimal"; Note 2: "A wide plan has mark 6D 71 hexadecimal" (magic is document 01's mark)
unfoldable pub magic : Format → List ℕ
magic Format.Narrow = 0x6d ∷ 0x70 ∷ []
magic Format.Wide = 0x6d ∷ 0x71 ∷ []

-- "n is 1 to 1,024"; document 02, Note 3: "The limit becomes 16,384"
abbrev pub most_rules : ℕ
most_rules = 16384

-- the trailer of n rules that stand right before it
unfoldable pub trailer_bytes : Format → ℕ → ℕ → List ℕ
unfolding bytes magic
trailer_bytes f n start = bytes 2 n ++ (bytes 2 start ++ (bytes 4 (length_of_record f * n) ++ magic f))

-- the bytes of a plan without prefix (prefix is document 01's cover): its rules, then the trailer
unfoldable pub plan_bytes : Format → List Record → ℕ → List ℕ
unfolding records_bytes trailer_bytes
plan_bytes f ws start = records_bytes f ws ++ trailer_bytes f (length ws) start

-- where the trailer begins, and its fields
unfoldable pub trailer_at : List ℕ → ℕ
trailer_at s = length s - trailer_length

unfoldable pub count_of : List ℕ → ℕ
unfolding trailer_at number
count_of s = number 2 s (trailer_at s)

unfoldable pub start_of : List ℕ → ℕ
unfolding trailer_at number
start_of s = number 2 s (trailer_at s + at_start)

unfoldable pub distance_of : List ℕ → ℕ
unfolding trailer_at number
distance_of s = number 4 s (trailer_at s + at_distance)

unfoldable pub same : List ℕ → List ℕ → Bool
same [] [] = true
same [] (y ∷ ys) = false
same (x ∷ xs) [] = false
same (x ∷ xs) (y ∷ ys) = eqb x y && same xs ys

-- the plan ends in the mark of a format, and in one of the two; its format
unfoldable pub marked_as : Format → List ℕ → Bool
unfolding trailer_at same magic
marked_as f s = same (drop (trailer_at s + at_mark) s) (magic f)

unfoldable pub marked : List ℕ → Bool
unfolding marked_as
marked s = marked_as Format.Narrow s || marked_as Format.Wide s

unfoldable pub format_of : List ℕ → Format
unfolding marked_as
format_of s = cond (marked_as Format.Wide s) Format.Wide Format.Narrow

-- the first rule's offset, and the plan's records and rules
unfoldable pub first_at : List ℕ → ℕ
unfolding trailer_at distance_of
first_at s = trailer_at s - distance_of s

unfoldable pub records_of : List ℕ → List Record
unfolding records_from format_of first_at count_of
records_of s = records_from (format_of s) s (first_at s) (count_of s)

unfoldable pub rules_of : List ℕ → List Rule
unfolding records_of format_of rules_in
rules_of s = rules_in (format_of s) (records_of s)

-- n and start, if the rules are fine
unfoldable pub accepted : ℕ → ℕ → Result Unit Refusal → Result Checked Refusal
accepted n start (Ok _) = Ok (record { n = n; start = start })
accepted n start (Err r) = Err r

-- "n is 1 to 1,024": the largest n is a parameter
unfoldable pub in_limits : ℕ → ℕ → Bool
in_limits most n = leb 1 n && leb n most

-- Check, with the largest n as a parameter
unfoldable pub checked_up_to : ℕ → List ℕ → Result Checked Refusal
unfolding marked format_of in_limits distance_of count_of start_of records_of judged accepted trailer_at
checked_up_to most s =
    cond (leb trailer_length (length s) && marked s)
    (cond (in_limits most (count_of s))
    (cond (eqb (distance_of s) (length_of_record (format_of s) * count_of s) && leb (distance_of s) (trailer_at s))
    (accepted (count_of s) (start_of s) (judged (format_of s) (records_of s) (start_of s)))
    (Err Refusal.Distance))
    (Err Refusal.Count))
    (Err Refusal.Magic)

unfoldable pub checked : List ℕ → Result Checked Refusal
unfolding checked_up_to
checked s = checked_up_to most_rules s
