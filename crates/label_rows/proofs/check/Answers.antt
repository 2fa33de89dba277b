-- Each row is passed as the check passes it, and the end is the check's. Assumes nothing.
use Rattle.std.proofs.Common.{◌≡◌, ◌<◌, ◌≤◌, ◌+◌, length, drop, sym, refl, ◌∙◌, arith}
use Rattle.std.specs.Prelude.{Ok}
use Rattle.refusal.proofs.Passed.{handed-on}
use Rattle.label_rows.proofs.Steps.{coverage-start, coverage-next, coverage-end, refused-from}
use Rattle.label_rows.proofs.check.Goals as goal

pub loop-i-init : goal.loop-i-init
loop-i-init c = coverage-start (Ok 0) c.args.rows.now refl

pub returns-in_err-next : goal.returns-in_err-next
returns-in_err-next c =
    let h : c.loop-i.i < length c.args.rows.now = omega arith in
    handed-on c.from_residual.result c.from_residual.ensures.1
    ∙ sym (c.loop-i.invariant ∙ coverage-next (Ok c.loop-i.next) c.loop-i.i c.args.rows.now h (sym c.in_err-next.ensures)
    ∙ refused-from c.in_err-next.field-0.0 (c.loop-i.i + 1) (drop (c.loop-i.i + 1) c.args.rows.now))

pub loop-i-preserved : goal.loop-i-preserved
loop-i-preserved c =
    let h : c.loop-i.i < length c.args.rows.now = omega arith in
    c.loop-i.invariant ∙ coverage-next (Ok c.loop-i.next) c.loop-i.i c.args.rows.now h (sym c.in_ok-next.ensures)

pub returns : goal.returns
returns c =
    let h : length c.args.rows.now ≤ c.loop-i.i = omega arith in
    let e : length c.args.rows.now ≡ c.loop-i.i = omega arith in
    (rw e at c.end.ensures) ∙ sym (c.loop-i.invariant ∙ coverage-end (Ok c.loop-i.next) c.loop-i.i c.args.rows.now h)
