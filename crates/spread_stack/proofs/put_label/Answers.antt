-- One byte is stored, or three, the low one first. Assumes nothing.
use Prim.Native.Nat.{ℕ, ◌+◌, ◌≤◌}
use lib.ListN.{length-set}
use mathlib.Core.Path.{◌≡◌}
use Rattle.record.specs.declared.Format.{Format}
use Rattle.record.specs.Format.{high_length, label_length}
use Rattle.spread_stack.proofs.Stacks.{label-narrow, label-wide}
use native.Mathlib.Omega.{arith}
use Rattle.spread_stack.proofs.put_label.Goals as goal

-- a wide label has three bytes
three : {f : Format} (at m : ℕ) → f ≡ Format.Wide → at + label_length f ≤ m → at + 3 ≤ m
unfolding high_length
three at m e h = rw e at h

pub bounds-out-at-in-Wide : goal.bounds-out-at-in-Wide
bounds-out-at-in-Wide c = simp length-set (omega (arith, three _ _ c.in-Wide.is c.requires))

pub bounds-out-at-in-Wide-2 : goal.bounds-out-at-in-Wide-2
bounds-out-at-in-Wide-2 c = simp length-set (omega (arith, three _ _ c.in-Wide.is c.requires))

pub returns-in-Narrow : goal.returns-in-Narrow
unfolding high_length
returns-in-Narrow c = rw c.in-Narrow.is (omega arith, label-narrow _ _ _)

pub returns-in-Wide : goal.returns-in-Wide
unfolding high_length
returns-in-Wide c = rw c.in-Wide.is (omega arith, label-wide _ _ _)
