-- What check answers is judged of the plan by itself. Assumes nothing.
use Rattle.work_load.proofs.Prepares.{itself}
use Rattle.work_load.proofs.load_plan.Goals as goal

pub load_judged-requires : goal.load_judged-requires
load_judged-requires c = rw c.check-judged.ensures (itself _)

pub returns : goal.returns
returns c = rw c.check-judged.ensures at c.load_judged.ensures
