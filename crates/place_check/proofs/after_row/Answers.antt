-- The rule over which the row opens is the representative, or not. Assumes nothing.
use mathlib.Core.Path.{sym, ◌∙◌}
use borrow.Author.Tests.{eq-eqb, ne_eqb}
use Rattle.model.specs.Stored.{after_row}
use Rattle.place_check.specs.States.{MaybeHas}
use Rattle.place_check.proofs.after_row.Goals as goal

pub returns-in_default : goal.returns-in_default
unfolding after_row
returns-in_default c = rw c.in_default.is

pub representative_at-requires : goal.representative_at-requires
unfolding MaybeHas
representative_at-requires c = rw c.in-Some.is at c.requires

pub returns-then-v-representative_at : goal.returns-then-v-representative_at
unfolding after_row
returns-then-v-representative_at c = rw (c.in-Some.is, eq-eqb _ _ (c.if-v-representative_at.true ∙ c.representative_at.ensures))

pub returns : goal.returns
unfolding after_row
returns c = rw (c.in-Some.is, ne_eqb _ _ (λ q. c.if-v-representative_at.false (q ∙ sym c.representative_at.ensures)))
