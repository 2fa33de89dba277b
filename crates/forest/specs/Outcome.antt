-- What measure and spread answer and leave, from what is lent (document 01, "Operations and what they turn down").
use Rattle.std.specs.Prelude.{ℕ, ◌+◌, ◌*◌, ◌^◌, Bool, cond, length, eqb, leb, ltb, Result, Ok, Err}
use mathlib.Core.List.{List}
use Rattle.words.specs.Number.{word_count}
unfoldable pub use Rattle.words.specs.Front.{cleared}
use Rattle.rule.specs.declared.Rule.{Rule}
use Rattle.refusal.specs.declared.Refusal.{Refusal}
use Rattle.plan.specs.declared.Checked.{Checked}
use Rattle.record.specs.declared.Format.{Format}
use Rattle.record.specs.Format.{label_length}
use Rattle.record.specs.Record.{word_length}
use Rattle.plan.specs.Check.{checked, rules_of, format_of}
use Rattle.plan.specs.Written.{output_after}
use Rattle.forest.specs.declared.Measured.{Measured}
use Rattle.forest.specs.Forest.{Forest, forest, count, weigh, one, levels, text}

-- "work has fewer than 32 × n words"; document 02, Note 3: "For plans above 1,024 rules work needs 40 words a rule": the words of work a
-- rule, and those that n rules need
abbrev pub few_rules : ℕ
few_rules = 1024

abbrev pub rule_work : ℕ
rule_work = 32

abbrev pub many_work : ℕ
many_work = 40

unfoldable pub work_words : ℕ → ℕ
work_words n = cond (leb n few_rules) (rule_work * n) (many_work * n)

unfoldable pub enough_work : ℕ → List ℕ → Bool
unfolding work_words
enough_work n work = leb (work_words n) (word_count work)

-- "Past 8, with or without a later refusal, the first 32 × n words of work end as zeros; earlier they are untouched."
-- enough says for each n whether 8 is passed
unfoldable pub work_after : (ℕ → Bool) → Result Checked Refusal → List ℕ → List ℕ
unfolding work_words cleared
work_after enough (Ok x) work = cond (enough x.n) (cleared (word_length * work_words x.n) work) work
work_after enough (Err r) work = work

-- document 02, Note 9: "label 0 for printed dividers", the whole label
abbrev pub divider : ℕ
divider = 0

-- what a label counts for among the entries: "a divider isn't an entry"
unfoldable pub entry : ℕ → ℕ
entry a = cond (eqb a divider) 0 1

-- "over 2^64 − 1": the least number that is too large to be given
abbrev pub count_limit : ℕ
count_limit = 2 ^ 64

-- "11: over 2^64 − 1 nodes. It gives trees, entries (all nodes) and levels"; Note 9: "Measure's second number leaves label 0 out; trees and
-- levels still include it. .. refusal 11 of measure still looks at all nodes."
unfoldable pub counted : Forest ℕ → Result Measured Refusal
unfolding count weigh levels entry
counted g = cond (ltb (weigh one g) count_limit) (Ok (record { trees = (count g); entries = (weigh entry g); levels = (levels g) })) (Err Refusal.Room)

-- "As check; 8: work has fewer than 32 × n words": n and start, or the refusal
unfoldable pub work_judged : List ℕ → Result Checked Refusal → Result Checked Refusal
unfolding enough_work
work_judged work (Ok x) = cond (enough_work x.n work) (Ok x) (Err Refusal.Lent)
work_judged work (Err r) = Err r

-- ".. 11", of the start rule's forest
unfoldable pub measured_from : List Rule → Result Checked Refusal → Result Measured Refusal
unfolding counted forest
measured_from R (Ok x) = counted (forest R x.start)
measured_from R (Err r) = Err r

unfoldable pub measured : List ℕ → List ℕ → Result Measured Refusal
unfolding measured_from work_judged checked rules_of
measured s work = measured_from (rules_of s) (work_judged work (checked s))

unfoldable pub measured_work : List ℕ → List ℕ → List ℕ
unfolding work_after enough_work checked
measured_work s work = work_after (λ n. enough_work n work) (checked s) work

-- "3 bytes per node"; Note 2: "so five bytes a node": the label's bytes, and those that open and close the node
abbrev pub node_length : Format → ℕ
node_length f = label_length f + 2

-- "11: output shorter than 3 bytes per node. It .. gives the length."
unfoldable pub text_roomed : Format → Forest ℕ → List ℕ → Result ℕ Refusal
unfolding weigh text
text_roomed f g out = cond (leb (node_length f * weigh one g) (length out)) (Ok (length (text f g))) (Err Refusal.Room)

-- "As check; 8 as in measure; 11"
unfoldable pub spread_from : Format → List Rule → List ℕ → Result Checked Refusal → Result ℕ Refusal
unfolding text_roomed forest
spread_from f R out (Ok x) = text_roomed f (forest R x.start) out
spread_from f R out (Err r) = Err r

unfoldable pub spread : List ℕ → List ℕ → List ℕ → Result ℕ Refusal
unfolding spread_from work_judged checked rules_of
spread s work out = spread_from (format_of s) (rules_of s) out (work_judged work (checked s))

-- the text of the plan's start rule
unfoldable pub text_of : List ℕ → Result Checked Refusal → List ℕ
unfolding text forest rules_of
text_of s (Ok x) = text (format_of s) (forest (rules_of s) x.start)
text_of s (Err r) = mathlib.Core.List.[]

-- "It writes .. Later bytes stay. Refused, output is untouched." The work is left as measure leaves it.
unfoldable pub spread_output : List ℕ → List ℕ → List ℕ → List ℕ
unfolding spread text_of checked output_after
spread_output s work out = output_after (spread s work out) (text_of s (checked s)) out
