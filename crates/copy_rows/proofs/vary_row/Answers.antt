-- Both variants are read off the rows that the rule names, then written. Assumes nothing.
use mathlib.Core.Path.{sym}
use Rattle.copy_rows.proofs.Rules.{at-rule}
use Rattle.copy_rows.proofs.Varying.{row-varied}
use Rattle.copy_rows.proofs.vary_row.Goals as goal

pub whole_of-whole-requires : goal.whole_of-whole-requires
whole_of-whole-requires c = at-rule (sym c.rule_at-rule.ensures) c.requires

pub shut_of-shut-requires : goal.shut_of-shut-requires
shut_of-shut-requires c = (at-rule (sym c.rule_at-rule.ensures) c.requires, c.whole_of-whole.ensures)

pub returns : goal.returns
returns c = row-varied _ _ c.rule_at-rule.ensures c.whole_of-whole.ensures c.shut_of-shut.ensures c.put_rule_in.ensures c.put_rule_in-2.ensures
