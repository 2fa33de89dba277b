-- Too many (`over-many`), or one more of each, and one tree (`over-fits`). Assumes nothing.
use Rattle.std.proofs.Common.{refl}
use Rattle.count_all.proofs.Keeping.{over-many, over-fits}
use Rattle.count_all.proofs.Counts.under.Goals as goal

pub returns-then-self-eq-MOST : goal.returns-then-self-eq-MOST
returns-then-self-eq-MOST c = over-many _ c.too_many.ensures c.if-self-eq-MOST.true

pub returns : goal.returns
returns c =
    over-fits _ _ _ _ c.if-self-eq-MOST.false c.weight-entry.ensures refl refl
