-- The rule at an offset is made of what the row keeps there. Assumes nothing.
use mathlib.Core.Path.{ap, ◌∙◌}
use Rattle.work_rows.specs.Rows.{rule_from, rule_at}
use Rattle.work_rows.proofs.rule_in.Goals as goal

pub returns : goal.returns
unfolding rule_at
returns c = c.from.ensures ∙ ap rule_from c.read.ensures
