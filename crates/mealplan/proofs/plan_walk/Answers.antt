-- `plan_walk` gives walk's answer as numbers, and leaves its work, cursor and answers. Assumes nothing.
use Rattle.mealplan.proofs.Left.{left-given}
use Rattle.mealplan.proofs.plan_walk.Goals as goal

pub returns : goal.returns
returns c = search (left-given c.walk.ensures c.give_walked.ensures)
