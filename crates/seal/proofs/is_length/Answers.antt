-- The test is the definition. Assumes nothing.
use mathlib.Core.Path.{refl}
use Rattle.seal.specs.Seal.{is_length}
use Rattle.seal.proofs.is_length.Goals as goal

pub returns : goal.returns
unfolding is_length
returns c = refl
