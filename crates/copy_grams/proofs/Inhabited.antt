-- What the theorem of the grams of a copy asks is met: a plan of three entries, of which a client sees the first; an entry with label 97 weighs
-- 30 grams, one with label 250, which is hidden, 500. So the plan weighs 560, the copy 30, and what was taken out 530. Assumes nothing.
use Rattle.std.specs.Prelude.{Ok}
use Prim.Native.Nat.{ℕ, ◌+◌, ◌*◌, ◌≤◌}
use native.Mathlib.Omega.{arith}
use mathlib.Core.Bool.{true}
use mathlib.Core.List.{List}
use mathlib.Core.Path.{◌≡◌, refl, ap}
use lib.ListN.{length, take, replicate}
use borrow.Author.Tests.{le-leb}
use Rattle.words.specs.Front.{in_front}
use Rattle.plan.specs.Check.{rules_of}
use Rattle.forest.specs.Forest.{forest, append, weigh}
use Rattle.forest.specs.Outcome.{work_words, enough_work, work_judged}
use Rattle.label_rows.specs.Coverage.{coverage, coverage_from, extended, ended, invalid}
use Rattle.label_rows.specs.Class.{row_of, covers, grams_of}
use Rattle.list_judge.specs.Listed.{list_judged}
use Rattle.copy_variants.specs.Visible.{visible, taken_out, seen_by}
use Rattle.copy_plan.specs.Bytes.{copy_bytes}
use Rattle.copy.specs.Copy.{class_judged, count_judged, lent_judged, copy_judged}
use Rattle.copy_answers.proofs.Sample.{few, list}
use Rattle.copy_answers.proofs.Inhabited.{few_plan, few-checked, few-rules, few-low, few_rules, few_top, may_write}
use Rattle.grams.specs.Grams.{sum_judged, weighed_from, weighed}
use Rattle.copy_grams.proofs.Parted.{grams-parted, grams-fit}

-- work for the plan and for the copy, and output
abbrev plan_work : List ℕ
plan_work = replicate 256 0

abbrev copy_work : List ℕ
copy_work = replicate 768 0

abbrev out : List ℕ
out = replicate 170 0

-- the bytes that the copy is
abbrev copy : List ℕ
copy = take (length (copy_bytes few_rules few_top)) (in_front (copy_bytes few_rules few_top) out)

made : copy_judged few_plan list 1 plan_work out ≡ Ok (record { n = 4; start = 3 })
unfolding list coverage coverage_from extended ended invalid list_judged class_judged count_judged lent_judged copy_judged work_words enough_work
made = rw few-checked

plan-weighs : weighed few_plan list plan_work ≡ Ok 560
unfolding few list coverage coverage_from extended ended invalid list_judged work_judged work_words enough_work forest weigh grams_of row_of covers sum_judged weighed_from weighed
plan-weighs = rw (few-checked, few-rules)

-- what is seen weighs 30 grams, and what is taken out 530
seen-weighs : weigh (grams_of list) (visible (seen_by list 1) (forest (rules_of few_plan) 3)) ≡ 30
unfolding few list forest weigh visible seen_by grams_of row_of covers
seen-weighs = rw few-rules

pub out-weighs : weigh (grams_of list) (taken_out (seen_by list 1) (forest (rules_of few_plan) 3)) ≡ 530
unfolding few list forest weigh taken_out seen_by grams_of row_of covers append
out-weighs = rw few-rules

-- a copy of this plan has at most 12 rules, for which there is work
copy-enough : (n : ℕ) → n ≤ 12 → enough_work n copy_work ≡ true
unfolding enough_work work_words
copy-enough n few-rules = rw (le-leb n 1024 (omega arith)) (le-leb (32 * n) 384 (omega arith))

-- so the theorems hold of this plan and its copy
pub sample-parted : (weighed copy list copy_work ≡ Ok 30) × (30 + weigh (grams_of list) (taken_out (seen_by list 1) (forest (rules_of few_plan) 3)) ≡ 560)
unfolding few
sample-parted =
    let X = may_write few_plan list 1 4 3 few-checked (omega arith) (rw few-rules few-low) plan_work out in
    let most : length X.rules ≤ 3 * length (rules_of few_plan) = X.copied.few in
    let four : length (rules_of few_plan) ≡ 4 = ap length few-rules in
    let fit = grams-fit made X refl plan_work plan-weighs copy_work (copy-enough (length X.rules) (omega (arith, most, four))) in
    let weighs : weighed copy list copy_work ≡ Ok 30 = rw seen-weighs at fit in
    (weighs, grams-parted made X refl plan_work plan-weighs copy_work weighs)
