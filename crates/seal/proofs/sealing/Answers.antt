-- `sealing` makes the definition's tests in their order; each answer is the law for the tests that led there. Assumes nothing.
use mathlib.Core.Path.{sym, ◌∙◌}
use mathlib.Core.Bool.{true}
use native.Mathlib.Omega.{arith}
use Rattle.refusal.proofs.Passed.{handed-on}
use Rattle.plan.specs.Check.{most_rules}
use Rattle.seal.proofs.Sealed.{not-counted, counted-few, not-fine, no_room, room-enough, given-fits}
use Rattle.seal.proofs.sealing.Goals as goal

pub returns-then-not-counted : goal.returns-then-not-counted
returns-then-not-counted c out e = let a = c.args in
    sym (not-counted a.format most_rules a.words.now a.start out _ c.given_count-n.ensures (sym c.counted.ensures ∙ c.if-not-counted.true))

pub overflow_cast-rules : goal.overflow_cast-rules
overflow_cast-rules c = omega (
  arith,
  (counted-few c.args.format most_rules c.args.words.now c.args.start c.args.words.now _ c.given_count-n.ensures (sym c.counted.ensures ∙ c.if-not-counted.false)),
)

pub invariant_of-rules : goal.invariant_of-rules
invariant_of-rules c = omega (arith, given-fits c.args.format _ _ c.given_count-n.ensures)

pub judge_rules-requires : goal.judge_rules-requires
judge_rules-requires c =
    (counted-few c.args.format most_rules c.args.words.now c.args.start c.args.words.now _ c.given_count-n.ensures (sym c.counted.ensures ∙ c.if-not-counted.false))

pub returns-then-room-need : goal.returns-then-room-need
returns-then-room-need c out e = let a = c.args in
    let l = c.length.ensures in
    let t = rw l at c.if-room-need.true in
    sym (no_room a.format most_rules a.words.now a.start out _ c.given_count-n.ensures (sym c.counted.ensures ∙ c.if-not-counted.false) _ c.judge_rules.ensures c.in_ok-judge_rules.was (omega (arith, t)))

pub returns-in_err-judge_rules : goal.returns-in_err-judge_rules
returns-in_err-judge_rules c out e = let a = c.args in
    handed-on c.from_residual.result c.from_residual.ensures.1
    ∙ sym (not-fine a.format most_rules a.words.now a.start out _ c.given_count-n.ensures (sym c.counted.ensures ∙ c.if-not-counted.false) _ c.judge_rules.ensures _ c.in_err-judge_rules.was)

pub returns : goal.returns
returns c out e = let a = c.args in
    let l = c.length.ensures in
    let t = rw l at c.if-room-need.false in
    sym (rw l (room-enough a.format most_rules a.words.now a.start out _ c.given_count-n.ensures (sym c.counted.ensures ∙ c.if-not-counted.false) _ c.judge_rules.ensures c.in_ok-judge_rules.was (omega (arith, t))))
