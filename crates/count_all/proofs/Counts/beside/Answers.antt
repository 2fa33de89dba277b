-- The levels are the larger ones (`beside-levels`). Assumes nothing.
use Rattle.count_all.specs.Counts.{beside}
use Rattle.count_all.proofs.Keeping.{beside-levels, beside-low}
use Rattle.count_all.proofs.Counts.beside.Goals as goal

pub returns : goal.returns
unfolding beside
returns c = λ m k p q. c.both.ensures m k _ p q (beside-low m k p q) (λ fits. beside-levels p q fits c.max.ensures)
