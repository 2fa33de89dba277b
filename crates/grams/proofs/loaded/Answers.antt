-- Each arm of the match is a case of `loaded_rules`. Assumes nothing.
use mathlib.Core.Path.{sym, ap}
use Rattle.grams.specs.Steps.{loaded_rules}
use Rattle.grams.proofs.loaded.Goals as goal

pub returns-in-Ok : goal.returns-in-Ok
unfolding loaded_rules
returns-in-Ok c = sym (ap loaded_rules c.in-Ok.is)

pub returns-in-Err : goal.returns-in-Err
unfolding loaded_rules
returns-in-Err c = sym (ap loaded_rules c.in-Err.is)
