-- Two tests, as `is_run` has them. Assumes nothing.
use mathlib.Core.Path.{refl}
use Rattle.compare_begin.specs.Stack.{is_run}
use Rattle.compare_begin.proofs.is_run.Goals as goal

pub returns : goal.returns
unfolding is_run
returns c = refl
