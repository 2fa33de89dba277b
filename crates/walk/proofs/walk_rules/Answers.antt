-- Past 8 the bytes are walked, and the work is cleared whatever came of it. Assumes nothing.
use native.Mathlib.Omega.{arith}
use mathlib.Core.Path.{sym, ◌∙◌}
use Rattle.forest.specs.Outcome.{work_words}
use Rattle.walk.proofs.Outcome.{lent, lendable, finished}
use Rattle.walk.proofs.walk_rules.Goals as goal

pub returns-then-not-enough_lent : goal.returns-then-not-enough_lent
returns-then-not-enough_lent c = lent _ _ _ _ _ _ _ c.requires (sym c.enough_lent.ensures ∙ c.if-not-enough_lent.true)

pub walk_bytes-answer-requires : goal.walk_bytes-answer-requires
walk_bytes-answer-requires c = lendable _ _ _ _ _ _ _ c.requires (sym c.enough_lent.ensures ∙ c.if-not-enough_lent.false)

-- by computation, for n rules and for none
pub clear_work-requires : goal.clear_work-requires
unfolding work_words
clear_work-requires c = let l = lendable _ _ _ _ _ _ _ c.requires (sym c.enough_lent.ensures ∙ c.if-not-enough_lent.false) in let same = c.walk_bytes-answer.ensures.1.same_length in let room = l.words in omega arith

pub returns : goal.returns
returns c = finished _ _ _ _ _ _ _ c.requires (sym c.enough_lent.ensures ∙ c.if-not-enough_lent.false) c.walk_bytes-answer.ensures.0 c.walk_bytes-answer.ensures.1 c.clear_work.ensures
