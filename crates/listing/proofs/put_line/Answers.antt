-- The plan's bytes have two digits each, and then the line ends. Assumes nothing.
use native.Mathlib.Omega.{arith}
use Prim.Native.Nat.{ℕ, ◌*◌}
use lib.ListN.{length, length-append, length-drop}
use lib.Seq.{length-take-le}
use mathlib.Core.Path.{refl, sym}
use Rattle.listing.proofs.Printed.{line-long, put-line}
use Rattle.listing.proofs.put_line.Goals as goal

pub slice_bounds-encode_to_slice-end : goal.slice_bounds-encode_to_slice-end
slice_bounds-encode_to_slice-end c = omega (arith, line-long c.args.plan.now)

pub slice_bounds-encode_to_slice-end-2 : goal.slice_bounds-encode_to_slice-end-2
slice_bounds-encode_to_slice-end-2 c = sym (length-take-le (2 * length c.args.plan.now) c.args.out.now (omega (arith, line-long c.args.plan.now)))

pub unwrap-requires : goal.unwrap-requires
unwrap-requires c =
    c.encode_to_slice.ensures.fits.1 (length-take-le (2 * length c.args.plan.now) c.args.out.now (omega (arith, line-long c.args.plan.now)))

pub bounds-out-end : goal.bounds-out-end
bounds-out-end c =
    let long = line-long c.args.plan.now in
    let front = length-take-le (2 * length c.args.plan.now) c.args.out.now (omega arith) in
    omega (arith, length-append {A = ℕ}, length-drop {A = ℕ}, c.encode_to_slice.auto.output)

pub returns : goal.returns
returns c =
    let long = line-long c.args.plan.now in
    let written = rw c.unwrap.ensures at c.encode_to_slice.ensures.written in
    let front = length-take-le (2 * length c.args.plan.now) c.args.out.now (omega arith) in
    put-line c.args.plan.now (λ k. (c.type_inv.plan k).fits) written refl (omega (arith, long))
    (record { stored = refl; ends = refl; room = omega (arith, length-append {A = ℕ}, length-drop {A = ℕ}, c.encode_to_slice.auto.output) })
