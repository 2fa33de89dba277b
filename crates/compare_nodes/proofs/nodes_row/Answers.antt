-- Both counts are read off the rows that the rule names, then written. Assumes nothing.
use mathlib.Core.Path.{sym}
use Rattle.count_passes.proofs.Named.{at-rule}
use Rattle.compare_nodes.proofs.Counting.{nodes-put}
use Rattle.compare_nodes.proofs.nodes_row.Goals as goal

pub before_of-before-requires : goal.before_of-before-requires
before_of-before-requires c = at-rule (sym c.rule_at-rule.ensures) c.requires.rows

pub after_of-after-requires : goal.after_of-after-requires
after_of-after-requires c = at-rule (sym c.rule_at-rule.ensures) c.requires.rows

pub returns : goal.returns
returns c = nodes-put _ c.rule_at-rule.ensures c.before_of-before.ensures c.after_of-after.ensures c.put_count.ensures c.put_count-2.ensures
