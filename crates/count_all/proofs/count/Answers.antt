-- Every rule is counted, and the rule's counts are read where they lie (`counted`). Assumes nothing.
use Rattle.count_all.proofs.Totals.{counted}
use Rattle.count_all.proofs.count.Goals as goal

pub returns : goal.returns
returns c = counted c.requires.below c.count_rows.ensures c.counts_at.ensures
