-- What grams answers and leaves, from what is lent (document 02, Note 8).
use Rattle.std.specs.Prelude.{ℕ, cond, List, ltb, Result, Ok, Err}
use Rattle.refusal.specs.declared.Refusal.{Refusal}
use Rattle.rule.specs.declared.Rule.{Rule}
use Rattle.plan.specs.declared.Checked.{Checked}
use Rattle.plan.specs.Check.{checked, rules_of}
use Rattle.forest.specs.Forest.{forest, weigh}
use Rattle.forest.specs.Outcome.{count_limit, enough_work, work_judged, work_after}
use Rattle.label_rows.specs.declared.LabelRow.{LabelRow}
use Rattle.label_rows.specs.Coverage.{coverage}
use Rattle.label_rows.specs.Class.{grams_of}
use Rattle.list_judge.specs.Listed.{list_judged}

-- "refused with 11 if above 2^64 − 1"
unfoldable pub sum_judged : ℕ → Result ℕ Refusal
sum_judged g = cond (ltb g count_limit) (Ok g) (Err Refusal.Room)

-- "the sum over all its nodes": those of the start rule's forest
unfoldable pub weighed_from : List LabelRow → List Rule → Result Checked Refusal → Result ℕ Refusal
unfolding sum_judged forest weigh grams_of
weighed_from rows R (Ok x) = sum_judged (weigh (grams_of rows) (forest R x.start))
weighed_from rows R (Err why) = Err why

-- ".. after the checks of plan, list and work"
unfoldable pub weighed : List ℕ → List LabelRow → List ℕ → Result ℕ Refusal
unfolding weighed_from work_judged list_judged coverage checked rules_of
weighed s rows work = weighed_from rows (rules_of s) (work_judged work (list_judged (coverage rows) (checked s)))

-- "Work is as in measure": past 8 it ends as zeros, with or without 11
unfoldable pub weighed_work : List ℕ → List LabelRow → List ℕ → List ℕ
unfolding work_after enough_work list_judged coverage checked
weighed_work s rows work = work_after (λ n. enough_work n work) (list_judged (coverage rows) (checked s)) work
