-- Each arm of the match is a clause of the definition. Assumes nothing.
use mathlib.Core.Path.{sym}
use mathlib.Core.Logic.{inl, inr}
use Rattle.model.specs.Stored.{spine_at}
use Rattle.facts.proofs.Rules.{other-spine}
use Rattle.place_check.proofs.spine_at.Goals as goal

pub returns-in-Node : goal.returns-in-Node
unfolding spine_at
returns-in-Node c = elim c.in-Node.is [ inl h ↦ rw h.2 | inr h ↦ rw h.2 ]

pub returns-in-Part : goal.returns-in-Part
unfolding spine_at
returns-in-Part c = rw c.in-Part.is c.is_that.ensures

pub returns-in_default : goal.returns-in_default
returns-in_default c = let a = c.args in sym (other-spine a.rule a.p a.kind a.inner a.a c.in_default.not-Node c.in_default.not-Fill c.in_default.not-Part)
