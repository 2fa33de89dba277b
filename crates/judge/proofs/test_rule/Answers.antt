-- The record's kind tells its row in the table of kinds, and the tests of that row are the code's. Assumes nothing.
use mathlib.Core.Path.{sym, ◌∙◌}
use Rattle.rule.specs.Rule.{every, sorts}
use Rattle.rule.proofs.ByKind.{decode-empty, decode-pair, decode-node}
use Rattle.judge.proofs.Judging.{tested-as}
use Rattle.judge.proofs.test_rule.Goals as goal

pub returns-then-kind-eq-PAIR : goal.returns-then-kind-eq-PAIR
unfolding every sorts
returns-then-kind-eq-PAIR c = c.verdict_of_two.ensures
    ∙ rw (c.closed_at.ensures, c.closed_at-then-kind-eq-PAIR.ensures)
    (sym (tested-as _ _ _ _ _ _ _ c.record-w.ensures (decode-pair _ _ c.if-kind-eq-PAIR.true)))

pub returns-then-kind-eq-NODE : goal.returns-then-kind-eq-NODE
unfolding every sorts
returns-then-kind-eq-NODE c = c.verdict.ensures
    ∙ rw (c.closed_at-then-kind-eq-NODE.ensures, c.label_fits.ensures)
    (sym (tested-as _ _ _ _ _ _ _ c.record-w.ensures (decode-node _ _ c.if-kind-eq-NODE.true)))

pub returns-then-kind-eq-EMPTY : goal.returns-then-kind-eq-EMPTY
unfolding every sorts
returns-then-kind-eq-EMPTY c = c.verdict-then-kind-eq-EMPTY.ensures ∙ sym (tested-as _ _ _ _ _ _ _ c.record-w.ensures (decode-empty _ _ c.if-kind-eq-EMPTY.true))
