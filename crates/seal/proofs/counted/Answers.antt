-- The test is the definition. Assumes nothing.
use native.Mathlib.Omega.{arith}
use Rattle.record.proofs.Formats.{words-least}
use Rattle.plan.specs.Check.{in_limits}
use Rattle.seal.proofs.counted.Goals as goal

pub nonzero_rem-result : goal.nonzero_rem-result
nonzero_rem-result c = let least = words-least c.args.format in rw c.words.ensures (omega (arith, least))

pub returns : goal.returns
unfolding in_limits
returns c = rw (c.word_count.ensures, c.words.ensures)
