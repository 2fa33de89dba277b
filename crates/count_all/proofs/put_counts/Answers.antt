-- Two numbers behind the order and two in the row (`counts-put`). Assumes nothing.
use Rattle.count_all.proofs.Places.{counts-put}
use Rattle.count_all.proofs.put_counts.Goals as goal

pub returns : goal.returns
returns c = counts-put c.requires.1 (rw c.behind.ensures at c.put_two.ensures) c.put_two-2.ensures
