-- Bytes written one after another at the front of a slice: each write goes where the last one ended, so the slice is always
-- what was written so far and then what was there before. Assumes nothing.
use Prim.Native.Nat.{ℕ, ◌+◌, ◌≤◌}
use native.Mathlib.Omega.{arith}
use mathlib.Core.List.{List, ◌++◌, append_assoc}
use mathlib.Core.Path.{◌≡◌}
use lib.ListN.{length, take, drop, length-append, length-drop, length-replicate}
use lib.Seq.{take_at, drop-append-add, drop-drop}
use Rattle.words.specs.Front.{in_front, cleared}

-- what is written where the last write ended
pub in_front-more : (bs out vs : List ℕ) (k m : ℕ) → length bs ≡ k → length vs ≡ m
    → take k (in_front bs out) ++ (vs ++ drop (k + m) (in_front bs out)) ≡ in_front (bs ++ vs) out
unfolding in_front
in_front-more bs out vs k m e f =
    rw (take_at bs (drop (length bs) out) k e, ← e, ← f, drop-append-add bs (drop (length bs) out) (length vs), drop-drop, length-append, append_assoc)

-- zeros at the front keep the length
pub length-cleared : (m : ℕ) (s : List ℕ) → m ≤ length s → length (cleared m s) ≡ length s
unfolding cleared
length-cleared m s fits = simp (length-append, length-replicate, length-drop) (omega arith)
