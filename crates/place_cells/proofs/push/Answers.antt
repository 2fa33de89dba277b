-- No cell changes nothing; a cell is written above the others. Assumes nothing.
use mathlib.Core.Path.{refl}
use native.Mathlib.Omega.{arith}
use Rattle.place_cells.specs.Changes.{add, high}
use Rattle.place_cells.proofs.Writes.{wrote_none, wrote_one}
use Rattle.place_cells.proofs.push.Goals as goal

pub overflow_add-top : goal.overflow_add-top
unfolding high
overflow_add-top c = let room = rw c.in-Some.is at c.requires in omega arith

pub write-requires : goal.write-requires
unfolding high
write-requires c = let room = rw c.in-Some.is at c.requires in omega arith

pub returns-in_default : goal.returns-in_default
unfolding high add
returns-in_default c = let a = c.args in rw c.in_default.is (refl, wrote_none a.cursor.now a.k)

pub returns : goal.returns
unfolding high add
returns c = let a = c.args in
    let room = rw c.in-Some.is at c.requires in
    rw (c.in-Some.is, c.write.ensures) (refl, wrote_one a.cursor.now a.k c.in-Some.cell (omega arith) (record { kind = omega arith; one = omega arith; two = omega arith; three = omega arith }))
