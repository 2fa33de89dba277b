-- What the theorem of equal answers asks is met: every accepted plan of few rules that name only lower ones has copies, so those of the
-- sample's two plans, as plans in bytes, tell the client the same. Assumes nothing.
use Rattle.std.specs.Prelude.{Ok}
use Prim.Native.Nat.{ℕ, ◌*◌, ◌≤◌}
use native.Mathlib.Omega.{arith}
use mathlib.Core.List.{List, [], map}
use mathlib.Core.Path.{◌≡◌, refl}
use lib.ListN.{length, take, get_or}
use Rattle.words.specs.Number.{number, bytes}
use Rattle.words.specs.Front.{in_front}
use Rattle.record.specs.declared.Format.{Format}
use Rattle.record.specs.Format.{word_length, high_length, most_label}
use Rattle.rule.specs.declared.Rule.{Rule}
use Rattle.rule.specs.Rule.{encode, rule, every}
use Rattle.reach.specs.Reaches.{lowest_cycle, cycle_from, reaches, within, any_named}
use Rattle.reach.specs.Order.{Lower, Orders, numbers_from, lower_below}
use Rattle.reach.proofs.Orders.{lower-orders, lower-test}
use Rattle.judge.specs.Judge.{cycle_judged}
use Rattle.plan.specs.Check.{checked, rules_of, plan_bytes, most_rules}
use Rattle.plan.proofs.Sound.{Plan, checked-plan}
use Rattle.forest.specs.Outcome.{work_words, cleared}
use Rattle.demand.specs.Calls.{walk_of}
use Rattle.label_rows.specs.declared.LabelRow.{LabelRow}
use Rattle.copy_variants.specs.Visible.{seen_by}
use Rattle.copy_variants.specs.Variants.{variants, most_copied}
use Rattle.copy_variants.proofs.Table.{varied}
use Rattle.copy_passes.specs.Passes.{copy_rules, copy_start}
use Rattle.copy_passes.specs.Copied.{Copied}
use Rattle.copy_passes.proofs.ThreePasses.{orders-placing, three-passes}
use Rattle.copy_plan.specs.Bytes.{copy_bytes}
use Rattle.copy_plan.proofs.Written.{copy-accepted, copy-rules}
use Rattle.copy.specs.Copy.{Copies}
use Rattle.copy_answers.specs.Asked.{TellAlike}
use Rattle.copy_answers.proofs.Alike.{equal-answers}
use Rattle.copy_answers.proofs.Sample.{few, many, list, visible-same}

-- the variants of the rules in the order of their numbers are what copy may write
module _ (s : List ℕ) (rows : List LabelRow) (c n start : ℕ) (e : checked s ≡ Ok (record { n = n; start = start })) (few-rules : n ≤ most_copied) (low : Lower (rules_of s)) where
  plan : Plan most_rules s n start
  plan = checked-plan s n start e

  abbrev order : Orders (rules_of s) (numbers_from 0 (length (rules_of s)))
  order = lower-orders (rules_of s) low

  abbrev rules : List Rule
  rules = copy_rules (variants (seen_by rows c) (rules_of s)) (length (rules_of s)) (λ i. get_or (numbers_from 0 (length (rules_of s))) i 0) order.place start

  abbrev top : ℕ
  top = copy_start (variants (seen_by rows c) (rules_of s)) (length (rules_of s)) (λ i. get_or (numbers_from 0 (length (rules_of s))) i 0) order.place start

  pub may_write : (work out : List ℕ) → Copies s rows c n start work (cleared (word_length * work_words n) work) out (in_front (copy_bytes rules top) out) (Ok (length (copy_bytes rules top)))
  may_write work out =
      let copied : Copied (seen_by rows c) (rules_of s) start rules top
      = three-passes (seen_by rows c) plan.sound (orders-placing order) (variants (seen_by rows c) (rules_of s)) (varied (seen_by rows c) plan.sound) start plan.ends in
      let small : length (rules_of s) ≤ most_copied = rw plan.rules few-rules in
      record {
        rules = rules;
        top = top;
        copied = copied;
        accepts = copy-accepted copied small;
        reads = copy-rules copied small;
        answer = refl;
        writes = refl;
        clears = refl;
      }

-- the sample's rules as plans
pub few_plan : List ℕ
few_plan = plan_bytes Format.Narrow (map encode few) 3

pub many_plan : List ℕ
many_plan = plan_bytes Format.Narrow (map encode many) 5

pub few-checked : checked few_plan ≡ Ok (record { n = 4; start = 3 })
unfolding few_plan few plan_bytes checked bytes number high_length most_label lowest_cycle cycle_from reaches within any_named cycle_judged rule encode
few-checked = refl

pub many-checked : checked many_plan ≡ Ok (record { n = 6; start = 5 })
unfolding many_plan many plan_bytes checked bytes number high_length most_label lowest_cycle cycle_from reaches within any_named cycle_judged rule encode
many-checked = refl

pub few-rules : rules_of few_plan ≡ few
unfolding few_plan few plan_bytes rules_of bytes number high_length most_label encode
few-rules = refl

pub many-rules : rules_of many_plan ≡ many
unfolding many_plan many plan_bytes rules_of bytes number high_length most_label encode
many-rules = refl

pub few-low : Lower few
unfolding few lower_below rule every
few-low = lower-test few refl

pub many-low : Lower many
unfolding many lower_below rule every
many-low = lower-test many refl

abbrev pub few_rules : List Rule
few_rules = rules few_plan list 1 4 3 few-checked (omega arith) (rw few-rules few-low)

abbrev pub few_top : ℕ
few_top = top few_plan list 1 4 3 few-checked (omega arith) (rw few-rules few-low)

abbrev pub many_rules : List Rule
many_rules = rules many_plan list 1 6 5 many-checked (omega arith) (rw many-rules many-low)

abbrev pub many_top : ℕ
many_top = top many_plan list 1 6 5 many-checked (omega arith) (rw many-rules many-low)

pub two-plans : TellAlike walk_of (take (length (copy_bytes few_rules few_top)) (in_front (copy_bytes few_rules few_top) [])) (length few_rules)
    (take (length (copy_bytes many_rules many_top)) (in_front (copy_bytes many_rules many_top) [])) (length many_rules)
unfolding may_write
two-plans =
    equal-answers (may_write few_plan list 1 4 3 few-checked (omega arith) (rw few-rules few-low) [] [])
    (may_write many_plan list 1 6 5 many-checked (omega arith) (rw many-rules many-low) [] [])
    refl refl (rw (few-rules, many-rules) visible-same)
