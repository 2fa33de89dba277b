-- By the tests on the number. Assumes nothing.
use native.Mathlib.Omega.{arith}
use borrow.Author.Tests.{lt-ltb, le-ltb}
use Rattle.plan_list.specs.Listed.{rules_at}
use Rattle.listing.proofs.rules_at.Goals as goal

pub returns-then-i-lt-TWO_RULES : goal.returns-then-i-lt-TWO_RULES
unfolding rules_at
returns-then-i-lt-TWO_RULES c = (rw (lt-ltb _ _ c.if-i-lt-TWO_RULES.true), omega arith)

pub returns-then-i-lt-THREE_RULES : goal.returns-then-i-lt-THREE_RULES
unfolding rules_at
returns-then-i-lt-THREE_RULES c = (rw (le-ltb _ _ c.if-i-lt-TWO_RULES.false, lt-ltb _ _ c.if-i-lt-THREE_RULES.true), omega arith)

pub returns : goal.returns
unfolding rules_at
returns c = (rw (le-ltb _ _ c.if-i-lt-TWO_RULES.false, le-ltb _ _ c.if-i-lt-THREE_RULES.false), omega arith)
