-- By cases on the answer. Assumes nothing.
use mathlib.Core.Path.{refl}
use Rattle.c_result.specs.Interface.{result_number, result_position, given_by}
use Rattle.c_result.proofs.give.Goals as goal

pub returns-in-Ok : goal.returns-in-Ok
unfolding given_by result_number result_position
returns-in-Ok g c shown = rw c.in-Ok.is (refl, refl)

pub returns-in-Err : goal.returns-in-Err
unfolding given_by result_number result_position
returns-in-Err g c shown = rw c.in-Err.is (c.number.ensures, c.position.ensures)
