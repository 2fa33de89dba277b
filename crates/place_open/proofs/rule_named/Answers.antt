-- The word is 0, or one more than the rule's number. Assumes nothing.
use native.Mathlib.Omega.{arith}
use Rattle.place_open.proofs.Places.{names-start, names-rule}
use Rattle.place_open.proofs.rule_named.Goals as goal

pub returns-then-word-eq0 : goal.returns-then-word-eq0
returns-then-word-eq0 c = let a = c.args in names-start a.start a.word c.if-word-eq0.true

pub returns : goal.returns
returns c = let a = c.args in names-rule a.start a.word (omega arith)
