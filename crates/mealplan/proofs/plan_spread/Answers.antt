-- `plan_spread` gives spread's answer as numbers, and leaves its output and the work. Assumes nothing.
use mathlib.Core.Path.{sym}
use Rattle.mealplan.proofs.plan_spread.Goals as goal

pub returns : goal.returns
returns c = let e = c.give_written.ensures in
    let s = c.spread.ensures in
    rw (sym s.0) (e.0, s.1, s.2, e.1, e.2)
