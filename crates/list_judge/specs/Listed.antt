-- Document 02, Note 5: "Refused: 13 ..; 14 ..; 15 ..; in each row 13 first, and after the plan's own check where a plan is lent too."
use Rattle.std.specs.Prelude.{Result, Ok, Err}
use Rattle.refusal.specs.declared.Refusal.{Refusal}
use Rattle.plan.specs.declared.Checked.{Checked}

-- what a list is found to be, behind what was found of a plan
unfoldable pub list_judged : Result Unit Refusal → Result Checked Refusal → Result Checked Refusal
list_judged (Ok _) c = c
list_judged (Err why) (Ok x) = Err why
list_judged (Err why) (Err first) = Err first
