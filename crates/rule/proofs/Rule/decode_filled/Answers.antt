-- As in `decode`; the kinds up to 2 are ruled out by what is required. Assumes nothing.
use native.Mathlib.Omega.{arith}
use mathlib.Core.Path.{sym, ◌∙◌}
use Rattle.rule.proofs.ByKind.{decode-fill, decode-part, decode-join, decode-none}
use Rattle.rule.proofs.Rule.decode_filled.Goals as goal

pub returns-then-kind-eq-FILL : goal.returns-then-kind-eq-FILL
returns-then-kind-eq-FILL c = c.whole.ensures ∙ sym (decode-fill c.args.format c.args.w c.if-kind-eq-FILL.true)

pub returns-then-kind-eq-PART : goal.returns-then-kind-eq-PART
returns-then-kind-eq-PART c = (rw (c.label-label.ensures, c.most_label.ensures) at c.whole-then-kind-eq-PART.ensures) ∙ sym (decode-part c.args.format c.args.w c.if-kind-eq-PART.true)

pub returns-then-kind-eq-JOIN : goal.returns-then-kind-eq-JOIN
returns-then-kind-eq-JOIN c = c.whole-then-kind-eq-JOIN.ensures ∙ sym (decode-join c.args.format c.args.w c.if-kind-eq-JOIN.true)

pub returns : goal.returns
returns c = sym (decode-none c.args.format c.args.w (λ e. omega arith) (λ e. omega arith) (λ e. omega arith) c.if-kind-eq-FILL.false c.if-kind-eq-PART.false c.if-kind-eq-JOIN.false)
