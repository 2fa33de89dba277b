-- Each answer follows from the tests that led there: before the trailer is read by the definition's first case, afterwards by what is left
-- of it (`at-trailer`). Assumes nothing.
use Prim.Native.Nat.{◌-◌}
use mathlib.Core.Path.{sym, ap, ◌∙◌}
use mathlib.Core.Bool.{and-eq-true_iff}
use native.Mathlib.Omega.{arith}
use lib.Dec.{leb}
use borrow.Author.Tests.{leb-true}
use Rattle.refusal.proofs.Passed.{handed-on}
use Rattle.plan.specs.Check.{accepted, in_limits}
use Rattle.plan.proofs.Checking.{check-short, check-unmarked, check-trailer}
use Rattle.plan.proofs.check_up_to.Goals as goal

pub returns-then-plan-lt-LENGTH : goal.returns-then-plan-lt-LENGTH
returns-then-plan-lt-LENGTH c = sym (check-short _ c.args.plan.now c.if-plan-lt-LENGTH.true)

pub returns-then-not-marked : goal.returns-then-not-marked
returns-then-not-marked c = sym
    (check-unmarked _ c.args.plan.now c.if-plan-lt-LENGTH.false
    (sym (rw c.format-format.ensures at c.marked.ensures) ∙ c.if-not-marked.true))

pub returns-then-not-in_limits : goal.returns-then-not-in_limits
returns-then-not-in_limits c = sym (check-trailer _ _ c.args.plan.now _ _ _ c.if-plan-lt-LENGTH.false c.format-format.ensures (sym c.marked.ensures ∙ c.if-not-marked.false)
    c.read-trailer.ensures.0 c.read-trailer.ensures.1 c.read-trailer.ensures.2
    ∙ rw (sym c.in_limits.ensures ∙ c.if-not-in_limits.true))

pub returns-then-not-reaches : goal.returns-then-not-reaches
returns-then-not-reaches c = sym (check-trailer _ _ c.args.plan.now _ _ _ c.if-plan-lt-LENGTH.false c.format-format.ensures (sym c.marked.ensures ∙ c.if-not-marked.false)
    c.read-trailer.ensures.0 c.read-trailer.ensures.1 c.read-trailer.ensures.2
    ∙ rw (sym c.in_limits.ensures ∙ c.if-not-in_limits.false, sym c.reaches.ensures ∙ c.if-not-reaches.true))

pub judge_rules-requires : goal.judge_rules-requires
unfolding in_limits
judge_rules-requires c =
    let n = c.read-trailer.result.n in
    let below = leb-true n c.args.most ((and-eq-true_iff (leb 1 n) (leb n c.args.most)).0 (sym c.in_limits.ensures ∙ c.if-not-in_limits.false)).1 in
    omega (arith, below, c.requires)

pub returns-in_err-judge_rules : goal.returns-in_err-judge_rules
unfolding accepted
returns-in_err-judge_rules c = handed-on c.from_residual.result c.from_residual.ensures.1
    ∙ ap (accepted c.read-trailer.result.n c.read-trailer.result.start) c.in_err-judge_rules.ensures
    ∙ sym (check-trailer _ _ c.args.plan.now _ _ _ c.if-plan-lt-LENGTH.false c.format-format.ensures (sym c.marked.ensures ∙ c.if-not-marked.false)
    c.read-trailer.ensures.0 c.read-trailer.ensures.1 c.read-trailer.ensures.2
    ∙ rw (sym c.in_limits.ensures ∙ c.if-not-in_limits.false, sym c.reaches.ensures ∙ c.if-not-reaches.false))

pub returns : goal.returns
unfolding accepted
returns c = ap (accepted c.read-trailer.result.n c.read-trailer.result.start) c.in_ok-judge_rules.ensures
    ∙ sym (check-trailer _ _ c.args.plan.now _ _ _ c.if-plan-lt-LENGTH.false c.format-format.ensures (sym c.marked.ensures ∙ c.if-not-marked.false)
    c.read-trailer.ensures.0 c.read-trailer.ensures.1 c.read-trailer.ensures.2
    ∙ rw (sym c.in_limits.ensures ∙ c.if-not-in_limits.false, sym c.reaches.ensures ∙ c.if-not-reaches.false))
