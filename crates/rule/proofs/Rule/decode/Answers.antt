-- Each test of the kind picks the row of the table that the code answers with. Assumes nothing.
use mathlib.Core.Path.{sym, ◌∙◌}
use Rattle.rule.proofs.ByKind.{decode-empty, decode-pair, decode-node}
use Rattle.rule.proofs.Rule.decode.Goals as goal

pub returns-then-kind-eq-EMPTY : goal.returns-then-kind-eq-EMPTY
returns-then-kind-eq-EMPTY c = c.whole.ensures ∙ sym (decode-empty c.args.format c.args.w c.if-kind-eq-EMPTY.true)

pub returns-then-kind-eq-PAIR : goal.returns-then-kind-eq-PAIR
returns-then-kind-eq-PAIR c = c.whole-then-kind-eq-PAIR.ensures ∙ sym (decode-pair c.args.format c.args.w c.if-kind-eq-PAIR.true)

pub returns-then-kind-eq-NODE : goal.returns-then-kind-eq-NODE
returns-then-kind-eq-NODE c = (rw (c.label-label.ensures, c.most_label.ensures) at c.whole-then-kind-eq-NODE.ensures) ∙ sym (decode-node c.args.format c.args.w c.if-kind-eq-NODE.true)
