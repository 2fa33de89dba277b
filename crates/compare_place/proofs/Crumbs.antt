-- What holds of an expression and all inside it holds of whatever stands at its positions and in the holes of its spines; and each step
-- into a spine goes to something lower, so left steps and heights together stay below the whole's. By recursion on how the position was
-- reached. Assumes nothing.
use Prim.Native.Nat.{ℕ, suc, ◌+◌, ◌≤◌}
use native.Mathlib.Omega.{arith}
use mathlib.Core.Path.{◌≡◌}
use Rattle.std.specs.Prelude.{Some}
use Rattle.std.proofs.lemmas.Option.{none-some, same_Some}
use Rattle.forest.specs.Expression.{Expression}
use Rattle.forest.specs.Sizes.{height}
use Rattle.forest.specs.Place.{Side}
use Rattle.forest.specs.Sides.{pick}
use Rattle.forest.specs.Position.{Position, At, Where, continues}

-- the left steps of a spine's crumbs
unfoldable pub lefts : Position → ℕ
lefts (Position.start e) = 0
lefts (Position.node_row r a c z) = 0
lefts (Position.part_row s r a b c z) = 0
lefts (Position.pair_side s r b c z) = 0
lefts (Position.node_spine r a c z) = 0
lefts (Position.fill_spine r b c z) = 0
lefts (Position.join_side Side.left r b c z) = suc (lefts z)
lefts (Position.join_side Side.right r b c z) = lefts z

-- Q of an expression is Q of what it is made of
pub record Hereditary (Q : Expression → Type 0) : Type 0 where
  pub pair : (r : ℕ) (b c : Expression) → Q (Expression.pair r b c) → Q b × Q c
  pub node : (r a : ℕ) (c : Expression) → Q (Expression.node r a c) → Q c
  pub fill : (r : ℕ) (b c : Expression) → Q (Expression.fill r b c) → Q b × Q c
  pub part : (r a : ℕ) (b c : Expression) → Q (Expression.part r a b c) → Q b × Q c
  pub join : (r : ℕ) (b c : Expression) → Q (Expression.join r b c) → Q b × Q c

-- Q of an expression that is at most N − k high
pub record Low (Q : Expression → Type 0) (N k : ℕ) (e : Expression) : Type 0 where
  pub has : Q e
  pub low : k + height e ≤ N

-- of what stands in the hole at z
abbrev pub Crumbed : (Expression → Type 0) → ℕ → Position → Type 0
Crumbed Q N (Position.start e) = Unit {0}
Crumbed Q N (Position.node_row r a c z) = Unit {0}
Crumbed Q N (Position.part_row s r a b c z) = Unit {0}
Crumbed Q N (Position.pair_side s r b c z) = Unit {0}
Crumbed Q N (Position.node_spine r a c z) = Unit {0}
Crumbed Q N (Position.fill_spine r b c z) = Low Q N 1 c
Crumbed Q N (Position.join_side Side.left r b c z) = Low Q N (suc (suc (lefts z))) c × Crumbed Q N z
Crumbed Q N (Position.join_side Side.right r b c z) = Crumbed Q N z

-- of what stands at z
abbrev pub Stood : (Expression → Type 0) → ℕ → Where → Expression → Position → Type 0
Stood Q N Where.row e z = Low Q N 0 e
Stood Q N Where.tree e z = Low Q N 0 e
Stood Q N Where.spine e z = Low Q N (suc (lefts z)) e × Crumbed Q N z
Stood Q N Where.here e z = Low Q N 0 e × Crumbed Q N z

module _ (Q : Expression → Type 0) (N : ℕ) where
  weaker : {j : ℕ} (k : ℕ) {e : Expression} → k ≤ j → Low Q N j e → Low Q N k e
  weaker k h x = record { has = x.has; low = omega (arith, x.low) }

  side-low : (s : Side) {k : ℕ} {b c : Expression} → Low Q N k b → Low Q N k c → Low Q N k (pick s b c)
  unfolding pick
  side-low Side.left x y = x
  side-low Side.right x y = y

  crumbed-continues : (z : Position) (e : Expression) → Crumbed Q N z → continues z ≡ Some e → Low Q N 0 e
  unfolding continues
  crumbed-continues (Position.start d) e x q = absurd (none-some e q)
  crumbed-continues (Position.node_row r a c z) e x q = absurd (none-some e q)
  crumbed-continues (Position.part_row s r a b c z) e x q = absurd (none-some e q)
  crumbed-continues (Position.pair_side s r b c z) e x q = absurd (none-some e q)
  crumbed-continues (Position.node_spine r a c z) e x q = absurd (none-some e q)
  crumbed-continues (Position.fill_spine r b c z) e x q = weaker 0 (omega arith) (rw (same_Some c e q) at x)
  crumbed-continues (Position.join_side Side.left r b c z) e x q = absurd (none-some e q)
  crumbed-continues (Position.join_side Side.right r b c z) e x q = crumbed-continues z e x q

  module _ (H : Hereditary Q) where
    pair-low : (s : Side) (r : ℕ) (b c : Expression) → Low Q N 0 (Expression.pair r b c) → Low Q N 0 (pick s b c)
    unfolding height
    pair-low s r b c x =
        let y = H.pair r b c x.has in
        side-low s (record { has = y.0; low = omega (arith, x.low) }) (record { has = y.1; low = omega (arith, x.low) })

    node-low : (r a : ℕ) (c : Expression) → Low Q N 0 (Expression.node r a c) → Low Q N 0 c
    unfolding height
    node-low r a c x = record { has = H.node r a c x.has; low = omega (arith, x.low) }

    fill-low : (r : ℕ) (b c : Expression) → Low Q N 0 (Expression.fill r b c) → Low Q N 1 b × Low Q N 1 c
    unfolding height
    fill-low r b c x =
        let y = H.fill r b c x.has in
        (record { has = y.0; low = omega (arith, x.low) }, record { has = y.1; low = omega (arith, x.low) })

    part_low : (s : Side) (r a : ℕ) (b c : Expression) → Low Q N 0 (Expression.part r a b c) → Low Q N 0 (pick s b c)
    unfolding height
    part_low s r a b c x =
        let y = H.part r a b c x.has in
        side-low s (record { has = y.0; low = omega (arith, x.low) }) (record { has = y.1; low = omega (arith, x.low) })

    join-low : (k r : ℕ) (b c : Expression) → Low Q N k (Expression.join r b c) → Low Q N (suc k) b × Low Q N (suc k) c
    unfolding height
    join-low k r b c x =
        let y = H.join r b c x.has in
        (record { has = y.0; low = omega (arith, x.low) }, record { has = y.1; low = omega (arith, x.low) })

    join-stood : (s : Side) (r : ℕ) (b c : Expression) (z : Position) → Stood Q N Where.spine (Expression.join r b c) z
        → Stood Q N Where.spine (pick s b c) (Position.join_side s r b c z)
    unfolding lefts pick
    join-stood Side.left r b c z x = let y = join-low (suc (lefts z)) r b c x.0 in (y.0, (y.1, x.1))
    join-stood Side.right r b c z x = let y = join-low (suc (lefts z)) r b c x.0 in (weaker (suc (lefts z)) (omega arith) y.1, x.1)

    -- whatever stands at a position
    pub stood : {w : Expression} → Low Q N 0 w → {k : Where} {e : Expression} {z : Position} → At w k e z → Stood Q N k e z
    unfolding lefts pick
    stood x At.start = x
    stood x (At.side {r} {b} {c} s h u v) = pair-low s r b c (stood x h)
    stood x (At.only_right {r} {b} {c} h u) = pair-low Side.right r b c (stood x h)
    stood x (At.only_left {r} {b} {c} h u v) = pair-low Side.left r b c (stood x h)
    stood x (At.tree_node h) = stood x h
    stood x (At.tree_fill h) = stood x h
    stood x (At.node h) = (stood x h, tt)
    stood x (At.under {r} {a} {c} h) = node-low r a c (stood x h).0
    stood x (At.fill {r} {b} {c} h) = let y = fill-low r b c (stood x h) in (y.0, y.1)
    stood x (At.join {r} {b} {c} {z = z} s h) = join-stood s r b c z (stood x h)
    stood x (At.part h) = let y = stood x h in (weaker 0 (omega arith) y.0, y.1)
    stood x (At.arm {r} {a} {b} {c} s h) = part_low s r a b c (stood x h).0
    stood x (At.hole {e = e} {z = z} h q) = crumbed-continues z e (stood x h).1 q
