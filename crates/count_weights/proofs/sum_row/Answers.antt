-- The sums of the rules named are read off their rows and added to the own weight, and the sum is written. Assumes nothing.
use mathlib.Core.Path.{sym, ◌∙◌}
use Rattle.count_passes.proofs.Named.{at-rule}
use Rattle.count_weights.proofs.Summing.{sum-put}
use Rattle.count_weights.proofs.sum_row.Goals as goal

pub named_sum-named-requires : goal.named_sum-named-requires
named_sum-named-requires c = at-rule (sym c.rule_at-rule.ensures) c.requires.rows

pub returns : goal.returns
returns c = sum-put _ _ c.rule_at-rule.ensures (c.of.ensures ∙ c.field16-own.ensures) c.named_sum-named.ensures
    c.plus.ensures c.put_count.ensures
