-- Each answer is a case of `start_judged`. Assumes nothing.
use mathlib.Core.Path.{sym, ◌∙◌}
use borrow.Author.Tests.{not-true, not-false}
use Rattle.judge.proofs.Judging.{start-not-below, start-closed}
use mathlib.Core.Path.{ap}
use mathlib.Core.Bool.{not}
use Rattle.judge.proofs.judge_start.Goals as goal

pub returns-then-rules-start : goal.returns-then-rules-start
returns-then-rules-start c = let r = c.args.rules.now in
    sym (start-not-below r.format r.bytes.now r.first r.n c.args.start c.if-rules-start.true)

pub returns-then-not-closed_at : goal.returns-then-not-closed_at
returns-then-not-closed_at c = let r = c.args.rules.now in
    sym
    (start-closed r.format r.bytes.now r.first r.n c.args.start _ c.if-rules-start.false
    (sym c.closed_at.ensures ∙ not-true c.closed_at.result (ap not c.if-not-closed_at.true)))

pub returns : goal.returns
returns c = let r = c.args.rules.now in
    sym
    (start-closed r.format r.bytes.now r.first r.n c.args.start _ c.if-rules-start.false
    (sym c.closed_at.ensures ∙ not-false c.closed_at.result (ap not c.if-not-closed_at.false)))
