-- Every rule is given its sum, and rule r's is read where it lies (`totalled`). Assumes nothing.
use Rattle.count_weights.proofs.Summing.{totalled}
use Rattle.count_weights.proofs.total.Goals as goal

pub returns : goal.returns
returns c = totalled c.requires.1 c.sum_rows.ensures c.count_at.ensures
