-- Wide where the plan ends in that mark. Assumes nothing.
use mathlib.Core.Path.{sym, ◌∙◌}
use Rattle.plan.specs.Check.{format_of}
use Rattle.plan.proofs.Trailer.format.Goals as goal

pub returns-then-marked : goal.returns-then-marked
unfolding format_of
returns-then-marked c = rw (sym c.marked.ensures ∙ c.if-marked.true)

pub returns-else-marked : goal.returns-else-marked
unfolding format_of
returns-else-marked c = rw (sym c.marked.ensures ∙ c.if-marked.false)
