-- The number is read off the rows that the rule names, then written. Assumes nothing.
use mathlib.Core.Path.{sym}
use Rattle.count_passes.proofs.Named.{at-rule}
use Rattle.tops_rows.proofs.Passing.{tops-put}
use Rattle.tops_rows.proofs.tops_row.Goals as goal

pub tops_of-tops-requires : goal.tops_of-tops-requires
tops_of-tops-requires c = at-rule (sym c.rule_at-rule.ensures) c.requires.rows

pub returns : goal.returns
returns c = tops-put _ c.rule_at-rule.ensures c.tops_of-tops.ensures c.put16.ensures
