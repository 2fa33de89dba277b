-- Each number is read where it lies (`counts-read`). Assumes nothing.
use Rattle.count_all.proofs.Places.{counts-read}
use Rattle.count_all.proofs.counts_at.Goals as goal

pub returns : goal.returns
returns c = counts-read _ _ _ c.behind-behind.ensures c.read64.ensures c.read64-2.ensures c.read64-3.ensures c.read64-4.ensures
