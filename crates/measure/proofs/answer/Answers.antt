-- The test of the counts tells whether the nodes fit (`answered-above`, `answered-exact`). Assumes nothing.
use Rattle.measure.proofs.Answers.{answered-above, answered-exact}
use mathlib.Core.Path.{sym, ◌∙◌}
use Rattle.measure.proofs.answer.Goals as goal

pub returns-then-above : goal.returns-then-above
returns-then-above c = answered-above c.count-counts.ensures (sym c.above.ensures ∙ c.if-above.true)

pub returns : goal.returns
returns c = answered-exact c.count-counts.ensures (sym c.above.ensures ∙ c.if-above.false)
