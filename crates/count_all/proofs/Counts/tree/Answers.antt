-- One tree of what has a top (`single_tree`). Assumes nothing.
use Rattle.count_all.proofs.Keeping.{single_tree}
use Rattle.count_all.proofs.Counts.tree.Goals as goal

pub returns : goal.returns
returns c = single_tree _ c.min.ensures
