-- Past 8 the places are compared, and the work is cleared whatever came of it. Assumes nothing.
use native.Mathlib.Omega.{arith}
use mathlib.Core.Path.{sym, ◌∙◌}
use Rattle.forest.specs.Outcome.{work_words}
use Rattle.compare.proofs.Outcome.{lent, lendable, finished}
use Rattle.compare.proofs.compare_rules.Goals as goal

pub returns-then-not-enough_compared : goal.returns-then-not-enough_compared
returns-then-not-enough_compared c = lent _ _ _ _ _ _ _ c.requires (sym c.enough_compared.ensures ∙ c.if-not-enough_compared.true)

pub compare_places-answer-requires : goal.compare_places-answer-requires
compare_places-answer-requires c = lendable _ _ _ _ c.args.budget _ _ c.requires (sym c.enough_compared.ensures ∙ c.if-not-enough_compared.false)

-- by computation, for n rules and for none
pub clear_work-requires : goal.clear_work-requires
unfolding work_words
clear_work-requires c = let l = lendable _ _ _ _ c.args.budget _ _ c.requires (sym c.enough_compared.ensures ∙ c.if-not-enough_compared.false) in
    let same = c.compare_places-answer.ensures.1.same_length in
    let room = l.words in
    omega arith

pub returns : goal.returns
returns c = finished _ _ _ _ _ _ _ c.requires (sym c.enough_compared.ensures ∙ c.if-not-enough_compared.false) c.compare_places-answer.ensures.0 c.compare_places-answer.ensures.1
    c.clear_work.ensures
