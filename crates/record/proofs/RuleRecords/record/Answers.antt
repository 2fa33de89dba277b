-- The i-th of several records begins i record lengths on (`records-at`). Assumes nothing.
use mathlib.Core.Path.{sym, ◌∙◌}
use Rattle.record.proofs.Records.{records-at}
use Rattle.record.proofs.RuleRecords.record.Goals as goal

pub returns : goal.returns
returns c = let a = c.args.self in
    (rw c.at.ensures at c.read.ensures) ∙ sym (records-at a.format a.bytes.now a.first a.n c.args.i c.requires)
