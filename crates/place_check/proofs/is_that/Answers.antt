-- Each arm of the match is a clause of the definition. Assumes nothing.
use Rattle.model.specs.Stored.{is_that}
use Rattle.place_check.proofs.is_that.Goals as goal

pub returns-in_default : goal.returns-in_default
unfolding is_that
returns-in_default c = rw c.in_default.is

pub returns : goal.returns
unfolding is_that
returns c = rw c.in-Some.is
