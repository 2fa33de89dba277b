-- The loop's invariant is `Tests`. Assumes nothing.
use Rattle.record.specs.RuleRecords.{records_lent}
use Rattle.judge.proofs.Testing.{Tests}
use Rattle.judge.proofs.test_rules.Given as goal

abbrev pub invariant-loop-i : goal.invariant-loop-i
invariant-loop-i l = Tests l.rules.format (records_lent l.rules) l.rules.n l.lower l.i
