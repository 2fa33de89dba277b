-- A spot that isn't too far has its numbers in range, and its own is written behind the levels above it. Assumes nothing.
use native.Mathlib.Omega.{arith}
use Rattle.transfer_climb.proofs.Levels.{ready-few, level-room, level-put}
use Rattle.transfer_climb.proofs.put_level.Goals as goal

pub overflow_mul-at : goal.overflow_mul-at
overflow_mul-at c = omega (arith, ready-few c.requires)

pub overflow_add-at : goal.overflow_add-at
overflow_add-at c = omega (arith, ready-few c.requires)

pub write16-requires : goal.write16-requires
write16-requires c = level-room c.requires

pub returns : goal.returns
returns c = level-put c.requires c.write16.ensures
