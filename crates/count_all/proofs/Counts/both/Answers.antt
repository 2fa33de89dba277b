-- Too many (`joined-many`), or both together (`joined-fits`). Assumes nothing.
use Rattle.count_all.proofs.Keeping.{joined-many, joined-fits}
use Rattle.std.proofs.Common.{refl, arith}
use Rattle.count_all.proofs.Counts.both.Goals as goal

pub returns-then-self-other : goal.returns-then-self-other
returns-then-self-other c = λ m k l p q low same. joined-many c.too_many.ensures (omega arith) m k l p q low

pub returns : goal.returns
returns c = joined-fits _ _ _ (omega arith) refl refl
