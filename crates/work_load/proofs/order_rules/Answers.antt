-- By number where the test of the rules says so, else by a search. Assumes nothing.
use mathlib.Core.Path.{sym, ◌∙◌}
use Rattle.work_load.proofs.Prepares.{number-orders}
use Rattle.work_load.proofs.order_rules.Goals as goal

pub returns-then-lower : goal.returns-then-lower
returns-then-lower c = number-orders c.requires.0 (sym c.requires.1 ∙ c.if-lower.true) c.order_by_number.ensures
