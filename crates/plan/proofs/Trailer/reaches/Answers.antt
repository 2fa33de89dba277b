-- The test is the definition's. Assumes nothing.
use native.Mathlib.Omega.{arith}
use Rattle.record.proofs.Formats.{records-most}
use Rattle.plan.proofs.Trailer.reaches.Goals as goal

pub overflow_mul-result : goal.overflow_mul-result
overflow_mul-result c = let most = records-most c.args.format c.args.n in rw c.length.ensures (omega (arith, most))
