-- a and z move; every other letter has the tag of one that doesn't. Assumes nothing.
use Rattle.letter.specs.Letter.{move_of}
use Rattle.reasons.specs.Reason.{reason_above}
use Rattle.letter_reason.proofs.Leads.{other-above}
use Rattle.letter_reason.proofs.above_reason.Goals as goal

pub returns-in-A : goal.returns-in-A
unfolding move_of reason_above
returns-in-A c = rw c.in-A.is

pub returns-in-Z : goal.returns-in-Z
unfolding move_of reason_above
returns-in-Z c = rw c.in-Z.is

pub returns-in_default : goal.returns-in_default
returns-in_default c = other-above _ c.in_default.not-A c.in_default.not-Z
