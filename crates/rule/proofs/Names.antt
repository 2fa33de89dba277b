-- What a test of every named rule says of each of them. Assumes nothing.
use Prim.Native.Nat.{ℕ}
use mathlib.Core.Bool.{Bool, true, false, ◌&&◌}
use lib.Dec.{T}
use Rattle.rule.specs.declared.Rule.{Rule}
use Rattle.rule.specs.Rule.{every}
use Rattle.rule.specs.Names.{Names, pair_one, pair_two, node_one, fill_one, fill_two, part_one, part_two, join_one, join_two}

-- the parts of a test that both pass
pub T-left : (p q : Bool) → T (p && q) → T p
T-left true q t = tt
T-left false q t = t

pub T-right : (p q : Bool) → T (p && q) → T q
T-right true q t = t
T-right false q t = absurd t

-- what every named rule passes, each of them passes
pub every-named : (p : ℕ → Bool) {x : Rule} {k : ℕ} → Names x k → T (every p x) → T (p k)
unfolding every
every-named p (pair_one {b} {c}) t = T-left (p b) (p c) t
every-named p (pair_two {b} {c}) t = T-right (p b) (p c) t
every-named p node_one t = t
every-named p (fill_one {b} {c}) t = T-left (p b) (p c) t
every-named p (fill_two {b} {c}) t = T-right (p b) (p c) t
every-named p (part_one {a} {b} {c}) t = T-left (p b) (p c) t
every-named p (part_two {a} {b} {c}) t = T-right (p b) (p c) t
every-named p (join_one {b} {c}) t = T-left (p b) (p c) t
every-named p (join_two {b} {c}) t = T-right (p b) (p c) t
