-- The sum is judged by whether it fits (`fits-judged`). Assumes nothing.
use Rattle.grams.proofs.Sums.{fits-judged}
use Rattle.grams.proofs.given.Goals as goal

pub returns : goal.returns
returns c g e = rw (c.ok_or.ensures.value, c.number.ensures) (fits-judged c.args.sum g e)
