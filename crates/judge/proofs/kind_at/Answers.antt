-- A rule below n has its record's kind; any other has none (`kind-past`). Assumes nothing.
use mathlib.Core.Path.{sym}
use Rattle.rule.proofs.Rules.{kind-past}
use Rattle.judge.proofs.kind_at.Goals as goal

pub returns-else-x-rules : goal.returns-else-x-rules
returns-else-x-rules c = let r = c.args.rules.now in
    sym (kind-past r.format r.bytes.now r.first r.n c.args.x c.if-x-rules.false)
