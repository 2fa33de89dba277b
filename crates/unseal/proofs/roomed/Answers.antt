-- The test is the definition, of the words that were counted. Assumes nothing.
use native.Mathlib.Omega.{arith}
use Rattle.unseal.proofs.Unsealing.{words-short}
use Rattle.unseal.proofs.roomed.Goals as goal

pub overflow_mul-result : goal.overflow_mul-result
overflow_mul-result c = omega (arith, words-short _ _ c.args.n c.words.ensures)
