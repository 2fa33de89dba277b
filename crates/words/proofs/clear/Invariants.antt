-- The loop's invariant: the first i bytes are zeros and the others are as they were. Assumes nothing.
use Prim.Native.Nat.{◌≤◌}
use mathlib.Core.Path.{◌≡◌}
use lib.ListN.{length}
use Rattle.words.specs.Front.{cleared}
use Rattle.words.proofs.clear.Given as goal

abbrev pub invariant-loop-i : goal.invariant-loop-i
invariant-loop-i l = (l.m ≤ length l.initial.s) × (l.s ≡ cleared l.i l.initial.s)
