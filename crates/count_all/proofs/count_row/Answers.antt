-- The rule is read, counted and its counts written. Assumes nothing.
use Rattle.count_all.proofs.Passes.{countable-readable}
use Rattle.count_all.proofs.count_row.Goals as goal

pub counts_of-counts-requires : goal.counts_of-counts-requires
counts_of-counts-requires c = countable-readable c.requires c.rule_at-rule.ensures

pub returns : goal.returns
returns c = record { counts = _; put = c.put_counts.ensures; of_rule = rw c.rule_at-rule.ensures at c.counts_of-counts.ensures }
