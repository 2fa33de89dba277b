-- `plan_grams` gives the grams as numbers, and leaves the work. Assumes nothing.
use Rattle.mealplan.proofs.plan_grams.Goals as goal

pub returns : goal.returns
returns c =
    let left = c.grams-weighed.ensures in
    let given = rw left.0 at c.give_weighed.ensures in
    (given.0, left.1, given.1, given.2)
