-- `plan_reason` gives reason's answer as numbers, and leaves the work. Assumes nothing.
use Rattle.mealplan.proofs.plan_reason.Goals as goal

pub returns : goal.returns
returns c = let past-arguments = c in
    let left = past-arguments.reason-answer.ensures in
    let given = rw left.0 at c.give_reasoned.ensures in
    (given.0, left.1, given.1, given.2)
