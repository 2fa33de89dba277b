-- Accepted is what the library calls Ok. Assumes nothing.
use mathlib.Core.Path.{ap, ◌∙◌}
use Rattle.plan_list.specs.Listed.{is_accepted}
use Rattle.listing.proofs.Printed.{ok-accepted}
use Rattle.listing.proofs.accepted.Goals as goal

pub returns : goal.returns
returns c = c.is_ok.ensures.value ∙ ok-accepted c.check.result ∙ ap is_accepted c.check.ensures
