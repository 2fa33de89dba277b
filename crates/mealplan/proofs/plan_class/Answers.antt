-- `plan_class` gives the answer for a label as numbers. Assumes nothing.
use mathlib.Core.Path.{sym}
use Rattle.mealplan.proofs.plan_class.Goals as goal

pub returns : goal.returns
returns c = rw (sym c.class_of.ensures) c.give_classed.ensures
