-- As for the other kinds; a kind above 5 means no rule. Assumes nothing.
use mathlib.Core.Path.{sym, ◌∙◌}
use Rattle.rule.specs.Rule.{every, sorts}
use Rattle.rule.proofs.ByKind.{decode-fill, decode-part, decode-join, decode-none}
use Rattle.judge.proofs.Judging.{tested-as, tested-none}
use Rattle.judge.proofs.test_filled.Goals as goal

pub returns-then-kind-eq-FILL : goal.returns-then-kind-eq-FILL
unfolding every sorts
returns-then-kind-eq-FILL c = c.verdict_of_two.ensures
    ∙ rw (c.holed_at.ensures, c.tree_at.ensures)
    (sym (tested-as _ _ _ _ _ _ _ c.requires.0 (decode-fill _ _ c.if-kind-eq-FILL.true)))

pub returns-then-kind-eq-PART : goal.returns-then-kind-eq-PART
unfolding every sorts
returns-then-kind-eq-PART c = c.verdict_of_two-then-kind-eq-PART.ensures
    ∙ rw (c.closed_at.ensures, c.closed_at-then-kind-eq-PART.ensures, c.label_fits.ensures)
    (sym (tested-as _ _ _ _ _ _ _ c.requires.0 (decode-part _ _ c.if-kind-eq-PART.true)))

pub returns-then-kind-eq-JOIN : goal.returns-then-kind-eq-JOIN
unfolding every sorts
returns-then-kind-eq-JOIN c = c.verdict_of_two-then-kind-eq-JOIN.ensures
    ∙ rw (c.holed_at-then-kind-eq-JOIN.ensures, c.holed_at-then-kind-eq-JOIN-2.ensures)
    (sym (tested-as _ _ _ _ _ _ _ c.requires.0 (decode-join _ _ c.if-kind-eq-JOIN.true)))

pub returns : goal.returns
returns c = let h = c.requires in
    sym (tested-none _ _ _ h.0 (decode-none _ _ h.1 h.2 h.3 c.if-kind-eq-FILL.false c.if-kind-eq-PART.false c.if-kind-eq-JOIN.false))
