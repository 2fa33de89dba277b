-- The move to the sibling leads to a node, or nowhere. Assumes nothing.
use mathlib.Core.Path.{◌∙◌}
use Rattle.reasons.specs.Decided.{stop_reason}
use Rattle.move_parts.proofs.Outcomes.{took, took-none}
use Rattle.letter_reason.proofs.Leads.{leads-moves, leads-stops}
use Rattle.letter_reason.proofs.sibling_reason.Goals as goal

pub returns-in-Node : goal.returns-in-Node
returns-in-Node c = leads-moves _ (took c.sibling.ensures c.in-Node.is).0

pub returns-in-Nowhere : goal.returns-in-Nowhere
unfolding stop_reason
returns-in-Nowhere c = c.end_reason.ensures ∙ leads-stops _ (took-none c.sibling.ensures c.in-Nowhere.is)
