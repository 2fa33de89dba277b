-- Two numbers that lie apart (`two-put`). Assumes nothing.
use Rattle.count_all.proofs.Places.{two-put}
use Rattle.std.proofs.Common.{arith}
use Rattle.count_all.proofs.put_two.Goals as goal

pub returns : goal.returns
returns c = two-put _ _ _ _ (omega arith) (omega arith) (omega arith) c.write64.ensures c.write64-2.ensures
