-- The loop's invariant: rows below i hold their rules, nothing else has changed, and lower is the test of the rules below i.
-- Assumes nothing.
use mathlib.Core.Path.{◌≡◌, ap, ◌∙◌}
use Rattle.rule.specs.Rule.{decode, rules_in}
use Rattle.rule.specs.Sound.{rule}
use native.Mathlib.Omega.{arith}
use Rattle.record.specs.RuleRecords.{records_lent}
use Rattle.record.proofs.Records.{records-at}
use Rattle.reach.proofs.Orders.{lower-none-below, lower-one-more}
use Rattle.work_rows.proofs.Rows.{loaded-none, loaded-more}
use Rattle.work_rows.proofs.load.Goals as goal

pub loop-i-init : goal.loop-i-init
loop-i-init c = (loaded-none _ _, lower-none-below _)

pub put_record-lower-requires : goal.put_record-lower-requires
put_record-lower-requires c = omega arith

pub loop-i-preserved : goal.loop-i-preserved
loop-i-preserved c =
    let r = c.args.rules.now in
    let i = c.loop-i.i in
    let R = rules_in r.format (records_lent r) in
    let read = c.record.ensures ∙ records-at r.format r.bytes.now r.first r.n i c.loop-i-test.true in
    let put = c.put_record-lower.ensures r.format (rule R i) (ap (decode r.format) read ∙ c.requires.1 i c.loop-i-test.true) in
    let v = c.loop-i.invariant in
    (loaded-more R _ _ _ i v.0 put.0, lower-one-more R i v.1 put.1)

pub returns : goal.returns
returns c = let e : c.loop-i.i ≡ c.args.rules.now.n = omega arith in let v = c.loop-i.invariant in (rw e at v.0, rw e at v.1)
