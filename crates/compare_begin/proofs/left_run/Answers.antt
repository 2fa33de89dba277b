-- The invariant: what is left of the run comes to what all of it does (`Running`). The measure: the steps left. Assumes nothing.
use Rattle.compare_begin.proofs.Runs.{run-over, run-met, run-other, step_room, step-few, step-made}
use Rattle.compare_begin.proofs.left_run.Goals as goal

pub returns-then-at-b : goal.returns-then-at-b
returns-then-at-b c = run-met c.requires c.loop.invariant c.if-at-b.true

pub around-y-requires : goal.around-y-requires
around-y-requires c = let h = c.requires in
    let v = c.loop.invariant in
    let e = c.rule_at.ensures in
    let q = c.in-Join.is in
    let on = c.if-at-b.false in
    let more = c.loop-test.true in
    (step_room h v e q on more, step-few h v e q on more)

pub returns-in_default : goal.returns-in_default
returns-in_default c = run-other c.requires c.loop.invariant c.rule_at.ensures c.in_default.not-Join

pub loop-preserved : goal.loop-preserved
loop-preserved c = let h = c.requires in
    let v = c.loop.invariant in
    let e = c.rule_at.ensures in
    let q = c.in-Join.is in
    let on = c.if-at-b.false in
    let more = c.loop-test.true in
    step-made h v e q on more c.around-y.ensures

pub returns : goal.returns
returns c = run-over c.requires c.loop.invariant c.loop-test.false
