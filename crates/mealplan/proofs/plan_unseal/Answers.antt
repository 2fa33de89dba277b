-- `plan_unseal` gives unseal's answer as numbers, and leaves its output. Assumes nothing.
use mathlib.Core.Path.{sym}
use Rattle.mealplan.proofs.plan_unseal.Goals as goal

pub returns : goal.returns
returns c = let e = c.give_unsealed.ensures in
    let s = c.unseal.ensures in
    rw (sym s.0) (e.0, s.1, e.1, e.2, e.3, e.4)
