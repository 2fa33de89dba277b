-- The number is the definition's, of the words that were counted. Assumes nothing.
use native.Mathlib.Omega.{arith}
use Rattle.record.proofs.Formats.{words-least}
use Rattle.seal.specs.Seal.{given_count}
use Rattle.seal.proofs.given_count.Goals as goal

pub nonzero_div-result : goal.nonzero_div-result
nonzero_div-result c = let least = words-least c.args.format in rw c.words.ensures (omega (arith, least))

pub returns : goal.returns
unfolding given_count
returns c = rw (c.word_count.ensures, c.words.ensures)
