-- Refused by check, or walked. Assumes nothing.
use mathlib.Core.Path.{sym, ◌∙◌}
use Rattle.walk.proofs.Outcome.{refused}
use Rattle.refusal.proofs.Passed.{handed-on}
use Rattle.walk.proofs.walk.Goals as goal

pub walk_rules-requires : goal.walk_rules-requires
walk_rules-requires c = sym c.check.ensures ∙ c.in_ok-accepted.was

pub returns-in_err-accepted : goal.returns-in_err-accepted
returns-in_err-accepted c = rw (handed-on c.from_residual.result c.from_residual.ensures.1) (refused _ _ _ _ _ _ (sym c.check.ensures ∙ c.in_err-accepted.was))
