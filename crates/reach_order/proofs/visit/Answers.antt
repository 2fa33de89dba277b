-- A rule that was seen is left alone (`visited-before`); another is the first on the stack (`visit-begins`). Assumes nothing.
use mathlib.Core.Path.{sym, ◌∙◌}
use native.Mathlib.Omega.{arith}
use Rattle.reach_order.proofs.Runs.{visited-before, visit-begins}
use Rattle.reach_order.proofs.visit.Goals as goal

pub returns-then-mark-ne-UNSEEN : goal.returns-then-mark-ne-UNSEEN
returns-then-mark-ne-UNSEEN c = visited-before c.requires.1 (λ e. c.if-mark-ne-UNSEEN.true (c.mark.ensures ∙ e))

pub run-requires : goal.run-requires
run-requires c = let p = c.requires in visit-begins p.0 p.1 p.2 (sym c.mark.ensures ∙ c.if-mark-ne-UNSEEN.false) (omega arith) c.place.ensures
