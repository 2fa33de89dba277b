-- By how many rules the candidate has. Assumes nothing.
use native.Mathlib.Omega.{arith}
use borrow.Author.Tests.{lt-ltb, le-ltb}
use Rattle.plan_list.specs.Listed.{place_of}
use Rattle.listing.proofs.place_of.Goals as goal

pub returns-then-i-lt-TWO_RULES : goal.returns-then-i-lt-TWO_RULES
unfolding place_of
returns-then-i-lt-TWO_RULES c = (rw (lt-ltb _ _ c.if-i-lt-TWO_RULES.true), omega arith)

pub returns-then-i-lt-THREE_RULES : goal.returns-then-i-lt-THREE_RULES
unfolding place_of
returns-then-i-lt-THREE_RULES c = (rw (le-ltb _ _ c.if-i-lt-TWO_RULES.false, lt-ltb _ _ c.if-i-lt-THREE_RULES.true), omega arith)

pub returns : goal.returns
unfolding place_of
returns c = (rw (le-ltb _ _ c.if-i-lt-TWO_RULES.false, le-ltb _ _ c.if-i-lt-THREE_RULES.false), omega arith)
