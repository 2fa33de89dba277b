-- Cells kept, with nothing on them. Assumes nothing.
use mathlib.Core.Path.{refl}
use native.Mathlib.Omega.{arith}
use Rattle.move_parts.specs.declared.Change.{Change}
use Rattle.move_parts.specs.Change.{change_node, Able, AbleStay, keep_of}
use Rattle.move_parts.proofs.Outcomes.{decided}
use Rattle.moves.proofs.stay.Goals as goal

pub returns : goal.returns
unfolding change_node Able AbleStay keep_of
returns c = let a = c.args in (refl, λ t s. decided (Change.Kept a.k a.p) refl tt (omega arith))
