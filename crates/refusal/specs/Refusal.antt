-- Document 01, "Operations and what they turn down", and document 02 from 12 on: the number and the position of each refusal.
use Rattle.std.specs.Prelude.{ℕ, List, ◌++◌, codes}
use Rattle.std.specs.Fmt.{decimal}
use Rattle.refusal.specs.declared.Refusal.{Refusal}

-- the refusal's number
abbrev pub number_of : Refusal → ℕ
number_of Refusal.Magic = 1
number_of Refusal.Count = 2
number_of Refusal.Distance = 3
number_of (Refusal.Malformed r) = 4
number_of (Refusal.NoRule r) = 5
number_of (Refusal.WrongSort r) = 6
number_of Refusal.Start = 7
number_of Refusal.Lent = 8
number_of (Refusal.Letter at) = 9
number_of Refusal.Place = 10
number_of Refusal.Room = 11
number_of (Refusal.Cycle r) = 12
number_of (Refusal.Row i) = 13
number_of (Refusal.Gap i) = 14
number_of (Refusal.Overlap i) = 15
number_of Refusal.TooMany = 16
number_of Refusal.Far = 17

-- "The position is the rule for 4 to 6, the byte's place counted from 0 for 9, and 0 otherwise"; Note 1: "12, some rule reaches itself;
-- position the lowest such rule"; Note 5: "The check names the first row at fault, counted from 0", "14, a gap, at the row after it or at
-- the number of rows"
abbrev pub position_of : Refusal → ℕ
position_of Refusal.Magic = 0
position_of Refusal.Count = 0
position_of Refusal.Distance = 0
position_of (Refusal.Malformed r) = r
position_of (Refusal.NoRule r) = r
position_of (Refusal.WrongSort r) = r
position_of Refusal.Start = 0
position_of Refusal.Lent = 0
position_of (Refusal.Letter at) = at
position_of Refusal.Place = 0
position_of Refusal.Room = 0
position_of (Refusal.Cycle r) = r
position_of (Refusal.Row i) = i
position_of (Refusal.Gap i) = i
position_of (Refusal.Overlap i) = i
position_of Refusal.TooMany = 0
position_of Refusal.Far = 0

-- what is printed of a refusal, as "refused 5 at 0" (document 01, "One sample plan")
abbrev pub refused_text : Refusal → List ℕ
refused_text why = codes "refused " ++ (decimal (number_of why) ++ (codes " at " ++ decimal (position_of why)))
