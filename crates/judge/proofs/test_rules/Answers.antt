-- The loop's invariant is `Tests`. Assumes nothing.
use mathlib.Core.Path.{sym, ◌∙◌}
use Rattle.std.proofs.lemmas.Result.{err_from_is_err_and}
use Rattle.record.proofs.Records.{records-length}
use Rattle.judge.proofs.Testing.{tests-more, all-pass, one-refused}
use Rattle.judge.proofs.test_rules.Goals as goal

pub returns-in_err-lower : goal.returns-in_err-lower
returns-in_err-lower c = let r = c.args.rules.now in
    let p = err_from_is_err_and c.from_residual.result c.from_residual.ensures.1 in
    rw (p.1, p.2)
    (one-refused _ (records-length r.format r.bytes.now r.first r.n) c.loop-i.invariant c.loop-i-test.true (sym c.in_err-lower.was ∙ c.test_rule.ensures))

pub loop-i-preserved : goal.loop-i-preserved
loop-i-preserved c = tests-more _ c.loop-i.invariant c.loop-i-test.true _ (sym c.in_ok-lower.was ∙ c.test_rule.ensures)

pub returns : goal.returns
returns c = let r = c.args.rules.now in
    all-pass _ (records-length r.format r.bytes.now r.first r.n) _ c.loop-i.invariant c.loop-i-test.false c.loop-i.auto.i-end
