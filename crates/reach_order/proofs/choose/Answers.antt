-- Each answer is what the marks that were read ask for. Assumes nothing.
use mathlib.Core.Path.{sym, ◌∙◌}
use Rattle.reach_order.proofs.Finding.{in_one, in_two, no-names, close-none, open-named, stop-named, close-two}
use Rattle.reach_order.proofs.choose.Goals as goal

pub mark-one-requires : goal.mark-one-requires
mark-one-requires c = c.requires _ (in_one c.in-Some.is)

pub mark-two-requires : goal.mark-two-requires
mark-two-requires c = c.requires _ (in_two c.in-Some.is)

pub returns-then-one-eq-UNSEEN : goal.returns-then-one-eq-UNSEEN
returns-then-one-eq-UNSEEN c = open-named _ _ _ (in_one c.in-Some.is) (sym c.mark-one.ensures ∙ c.if-one-eq-UNSEEN.true)

pub returns-then-one-eq-OPEN : goal.returns-then-one-eq-OPEN
returns-then-one-eq-OPEN c = stop-named _ _ _ (in_one c.in-Some.is) (sym c.mark-one.ensures ∙ c.if-one-eq-OPEN.true)

pub returns-then-two-eq-UNSEEN : goal.returns-then-two-eq-UNSEEN
returns-then-two-eq-UNSEEN c = open-named _ _ _ (in_two c.in-Some.is) (sym c.mark-two.ensures ∙ c.if-two-eq-UNSEEN.true)

pub returns-then-two-eq-OPEN : goal.returns-then-two-eq-OPEN
returns-then-two-eq-OPEN c = stop-named _ _ _ (in_two c.in-Some.is) (sym c.mark-two.ensures ∙ c.if-two-eq-OPEN.true)

pub returns-in_default : goal.returns-in_default
returns-in_default c = close-none _ _ (no-names c.in_default.not-Some)

pub returns : goal.returns
returns c = close-two _ _ c.in-Some.is ((λ e. c.if-one-eq-UNSEEN.false (c.mark-one.ensures ∙ e)), λ e. c.if-one-eq-OPEN.false (c.mark-one.ensures ∙ e)) ((λ e. c.if-two-eq-UNSEEN.false (c.mark-two.ensures ∙ e)), λ e. c.if-two-eq-OPEN.false (c.mark-two.ensures ∙ e))
