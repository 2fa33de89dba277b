-- `plan_measure` gives measure's answer as numbers, and leaves the work. Assumes nothing.
use mathlib.Core.Path.{sym}
use Rattle.mealplan.proofs.plan_measure.Goals as goal

pub returns : goal.returns
returns c = let e = c.give_measured.ensures in
    let s = c.measure.ensures in
    rw (sym s.0) (e.0, s.1, e.1, e.2, e.3, e.4)
