-- Bytes copied over a part of the slice are stored there byte by byte, as `sets` does. Assumes nothing.
use Prim.Native.Nat.{◌+◌, ◌-◌}
use native.Mathlib.Omega.{arith}
use mathlib.Core.Path.{◌≡◌, refl}
use mathlib.Core.List.{append_assoc}
use lib.ListN.{length}
use lib.Seq.{sets-eq, drop-drop}
use Rattle.decimal.specs.Put.{Put}
use Rattle.decimal.proofs.Puts.{put-length}
use Rattle.decimal.proofs.Text.push_bytes.Goals as goal

pub returns : goal.returns
returns c =
    let bytes = c.args.bytes.now in
    let s = c.args.self.now in
    let n : s.len + length bytes - s.len ≡ length bytes = omega arith in
    let put : Put bytes s.len s.out.now _ (s.len + length bytes) =
    record {
      stored = rw (c.copy_from_slice.ensures.after, n, sets-eq bytes s.out.now s.len c.requires, drop-drop, append_assoc) refl;
      ends = refl;
      room = c.requires;
    }
    in
    record { same_reference = refl; same_length = put-length put; put = put }
