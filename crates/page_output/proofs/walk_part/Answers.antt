-- What the walk's contract says of cursor and answers. Assumes nothing.
use mathlib.Core.Path.{ap}
use Rattle.demand.specs.Calls.{Left}
use Rattle.page_output.proofs.walk_part.Goals as goal

pub returns : goal.returns
returns c = let walked = c.walk.ensures in
    (ap (λ (l : Left). l.cursor) walked, ap (λ (l : Left). l.answers) walked)
