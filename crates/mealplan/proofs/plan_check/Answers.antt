-- `plan_check` gives check's answer as numbers. Assumes nothing.
use mathlib.Core.Path.{sym}
use Rattle.mealplan.proofs.plan_check.Goals as goal

pub returns : goal.returns
returns c = rw (sym c.check.ensures) c.give_checked.ensures
