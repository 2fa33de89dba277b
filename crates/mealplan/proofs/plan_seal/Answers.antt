-- `plan_seal` gives seal's answer as numbers, and leaves its output. Assumes nothing.
use Rattle.mealplan.proofs.plan_seal.Goals as goal

pub returns : goal.returns
returns c = let s = c.seal-answer.ensures in
    let e = rw s.0 at c.give_written.ensures in
    (e.0, s.1, e.1, e.2)
