-- The loop's invariant: rows below i hold their rules, nothing else has changed, and lower is the test of the rules below i.
-- Assumes nothing.
use mathlib.Core.Path.{◌≡◌}
use Rattle.rule.specs.Rule.{rules_in}
use Rattle.record.specs.RuleRecords.{records_lent}
use Rattle.reach.specs.Order.{lower_below}
use Rattle.work_rows.specs.Rows.{Loaded}
use Rattle.work_rows.proofs.load.Given as goal

abbrev pub invariant-loop-i : goal.invariant-loop-i
invariant-loop-i l = let R = rules_in l.rules.format (records_lent l.rules) in Loaded R l.i l.initial.work l.work × (l.lower ≡ lower_below R l.i)
