-- The answer gives no number. Assumes nothing.
use Rattle.std.specs.Prelude.{[]}
use Rattle.c_result.specs.Interface.{walked_gives, given_by}
use Rattle.c_result.proofs.give_walked.Goals as goal

pub returns : goal.returns
unfolding walked_gives given_by
returns c = c.give.ensures (λ (x : Unit). [])
