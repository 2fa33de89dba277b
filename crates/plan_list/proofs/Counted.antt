-- The whole list computed: how many plans it has, that they are in order, and that each is one of the note's. Assumes nothing.
use mathlib.Core.Path.{◌≡◌, refl}
use mathlib.Core.Bool.{true}
use lib.Dec.{T}
use Rattle.words.specs.Number.{number}
use Rattle.words.specs.Words.{words_at}
use Rattle.record.specs.Format.{high_length, most_label}
use Rattle.rule.specs.Rule as ruled
use Rattle.reach.specs.Reaches.{lowest_cycle, cycle_from, reaches, within, any_named}
use Rattle.judge.specs.Judge.{cycle_judged}
use Rattle.plan.specs.Check.{checked, format_of, count_of, start_of, rules_of}
use Rattle.plan_list.specs.Listed.{listed, kept, is_listed, candidate, plan_of, three_rules, rule_bytes, rules_at, place_of, plain, wordless, is_accepted}
use Rattle.plan_list.specs.Order.{key, before, before_all, ascending, with_rules}
use Rattle.plan_list.proofs.Tested.{is_narrow, all_bytes, rules_from, small_as, all_small}

pub record Counted : Type 0 where
  -- "There is one such plan for n = 1 and there are seven for n = 2."
  pub one : with_rules 1 listed ≡ 1
  pub two : with_rules 2 listed ≡ 7
  pub three : with_rules 3 listed ≡ 95
  -- "in the order of n, then rule words, then start"
  pub in_order : ascending listed ≡ true
  pub all_small_lem : T (all_small listed)

pub counted : Counted
unfolding listed kept is_listed candidate plan_of three_rules rule_bytes rules_at place_of plain wordless is_accepted checked high_length most_label cycle_judged lowest_cycle cycle_from reaches within any_named number format_of count_of start_of rules_of ruled.rule ruled.labelled_to ruled.every words_at key before before_all ascending with_rules is_narrow all_bytes rules_from small_as all_small
counted = record { one = refl; two = refl; three = refl; in_order = refl; all_small_lem = tt }
