-- The kind is its record's first word (`kind-at`). Assumes nothing.
use mathlib.Core.Path.{sym, ◌∙◌}
use Rattle.record.proofs.Records.{kind-at}
use Rattle.record.proofs.RuleRecords.kind.Goals as goal

pub returns : goal.returns
returns c = let a = c.args.self in
    (rw c.at.ensures at c.read16.ensures) ∙ sym (kind-at a.format a.bytes.now a.first a.n c.args.i c.requires)
