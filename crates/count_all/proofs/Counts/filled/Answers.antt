-- What fills the hole begins as deep as the hole lies (`filling-levels`). Assumes nothing.
use Rattle.std.proofs.Common.{refl}
use Rattle.count_all.specs.Counts.{filling}
use Rattle.count_all.proofs.Keeping.{filling-levels, filling-low}
use Rattle.count_all.proofs.Counts.filled.Goals as goal

pub returns : goal.returns
unfolding filling
returns c = λ m k p q. c.both.ensures m k _ p q (filling-low m k p q) (λ fits. filling-levels p q fits refl c.max.ensures)
