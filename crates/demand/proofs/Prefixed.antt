-- Bytes before an accepted plan (document 01's cover) change nothing that a walk answers and leaves. Assumes nothing.
use Rattle.std.specs.Prelude.{Ok}
use Prim.Native.Nat.{ℕ}
use mathlib.Core.Path.{◌≡◌}
use mathlib.Core.List.{List, ◌++◌}
use Rattle.plan.specs.Check.{checked}
use Rattle.forest.proofs.Prefixed.{prefix-plan, prefix-begun, prefix-walked-work}
use Rattle.demand.specs.Calls.{Call, lent, walk_of}

pub prefix-walk : (p s : List ℕ) (n start : ℕ) → checked s ≡ Ok (record { n = n; start = start }) → (cursor : List ℕ) (c : Call) → walk_of (lent (p ++ s) cursor c) ≡ walk_of (lent s cursor c)
unfolding walk_of lent
prefix-walk p s n start h cursor c =
    rw (prefix-begun p s n start h c.work cursor c.letters c.answers, prefix-walked-work p s n start h c.work cursor c.letters c.answers, prefix-plan p s n start h)
