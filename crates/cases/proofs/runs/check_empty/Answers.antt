-- Narrow rules have eight bytes. Assumes nothing.
use native.Mathlib.Omega.{arith}
use mathlib.Core.Path.{◌≡◌}
use Rattle.record.proofs.Formats.{narrow_high}
use Rattle.cases.proofs.runs.check_empty.Goals as goal

pub overflow_mul-length : goal.overflow_mul-length
overflow_mul-length g c =
    let e : c.length.result ≡ 8 = omega (arith, narrow_high, c.length.ensures) in
    record { fits = rw e (omega (arith, c.from.ensures)) }

pub overflow_add-length : goal.overflow_add-length
overflow_add-length g c =
    let e : c.length.result ≡ 8 = omega (arith, narrow_high, c.length.ensures) in
    record { fits = rw e (omega (arith, c.from.ensures)) }
