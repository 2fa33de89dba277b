-- From a row to a tree of it by counts: at a pair with two sides the tree stands in the left one if fewer trees are before it than that has, else
-- in the right one, behind so many fewer. A side is stood at by its representative, which has the side's trees, and is lower at each step.
-- Assumes nothing.
use Prim.Native.Nat.{ℕ, ◌+◌, ◌-◌, ◌≤◌, ◌<◌}
use native.Mathlib.Omega.{arith}
use mathlib.Core.Path.{◌≡◌, refl, sym, ap}
use mathlib.Core.Bool.{true, false}
use mathlib.Core.List.{List, [], ◌∷◌}
use Rattle.rule.specs.declared.Rule.{Rule}
use Rattle.forest.specs.Expression.{Expression, rhs}
use Rattle.forest.specs.Sizes.{height}
use Rattle.forest.specs.Good.{Sort, Known}
use Rattle.forest.specs.Place.{Cells, Side, is_empty, representative, step}
use Rattle.forest.specs.Sides.{pick}
use Rattle.forest.specs.Position.{Position, Where, At, cells}
use Rattle.forest.proofs.Cases.{by_bool}
use Rattle.model.specs.Facts.{Facts}
use Rattle.model.proofs.Fit.{Fit}
use Rattle.transfer_path.specs.Spot.{Spot, tops, spot}
use Rattle.transfer_path.proofs.Spots.{tops-empty}
use Rattle.transfer_seek.specs.Seek.{Proper, Sought, TreeAt}

-- rule v stands where e does, with as many trees, and is no higher
record Settled (E : ℕ → Expression) (w e : Expression) (z : Position) (v : ℕ) : Type 0 where
  stands : At w Where.row (E v) z
  proper : Proper (E v)
  many : tops (E v) ≡ tops e
  low : height (E v) ≤ height e

module _ {E : ℕ → Expression} {w : Expression} where
  itself : {e : Expression} {z : Position} {v : ℕ} → E v ≡ e → Proper e → At w Where.row e z → Settled E w e z v
  itself q p h = record { stands = rw q h; proper = rw q p; many = ap tops q; low = rw q (omega arith) }

  module _ {r : ℕ} {b c : Expression} {z : Position} where
    right-only : {v : ℕ} → is_empty b ≡ true → Settled E w c z v → Settled E w (Expression.pair r b c) z v
    unfolding tops height
    right-only u k =
        let none = tops-empty b u in
        let same = k.many in
        let low = k.low in
        record { stands = k.stands; proper = k.proper; many = omega arith; low = omega arith }

    left-only : {v : ℕ} → is_empty c ≡ true → Settled E w b z v → Settled E w (Expression.pair r b c) z v
    unfolding tops height
    left-only u k =
        let none = tops-empty c u in
        let same = k.many in
        let low = k.low in
        record { stands = k.stands; proper = k.proper; many = omega arith; low = omega arith }

  -- a representative stands where its expression does
  settled : {e : Expression} {z : Position} → Known E e → At w Where.row e z → Settled E w e z (representative e)
  unfolding representative Proper
  settled (Known.empty q) h = itself q tt h
  settled (Known.node q k) h = itself q tt h
  settled (Known.fill q k l) h = itself q tt h
  settled (Known.part q k l) h = itself q tt h
  settled (Known.join q k l) h = itself q tt h
  settled (Known.pair {r} {b} {c} q k l) h =
      by_bool (is_empty b) (λ u. rw u (right-only u (settled l (At.only_right h u))))
      (λ u. by_bool (is_empty c) (λ v. rw (u, v) (left-only v (settled k (At.only_left h u v)))) (λ v. rw (u, v) (itself q (u, v) h)))

  -- a row begun
  pub seek-begins : {e : Expression} {z : Position} → Known E e → At w Where.row e z → {i : ℕ} → i < tops e
      → Sought E w (representative e) i (cells z) ((spot z).0 + i, (spot z).1)
  seek-begins {z = z} k h l =
      let s = settled k h in
      let same = s.many in
      record { position = z; stands = s.stands; proper = s.proper; below = omega arith; cells_are = refl; spot_is = refl }

  pub low-side : {e : Expression} {z : Position} → Known E e → At w Where.row e z → height (E (representative e)) ≤ height e
  low-side k h = (settled k h).low

  -- a turn at a pair
  module _ {a i : ℕ} {b c : Expression} {cs : Cells} {x : Spot} (q : E a ≡ Expression.pair a b c) (k : Sought E w a i cs x) where
    pair-at : At w Where.row (Expression.pair a b c) k.position
    pair-at = rw q at k.stands

    two-sided : (is_empty b ≡ false) × (is_empty c ≡ false)
    unfolding Proper
    two-sided = rw q at k.proper

    side-at : (s : Side) → At w Where.row (pick s b c) (Position.pair_side s a b c k.position)
    side-at s = At.side s pair-at two-sided.0 two-sided.1

    pub seek-left : Known E b → i < tops b → Sought E w (representative b) i (step Side.left a (representative b) cs) x
    unfolding pick cells spot
    seek-left known l =
        rw (sym k.cells_are, sym k.spot_is)
        (seek-begins known (side-at Side.left) l)

    pub seek-right : Known E c → tops b ≤ i → Sought E w (representative c) (i - tops b) (step Side.right a (representative c) cs) x
    unfolding pick cells spot tops
    seek-right known l =
        let whole = ap tops q in
        let below = k.below in
        let e : (spot k.position).0 + tops b + (i - tops b) ≡ (spot k.position).0 + i = omega arith in
        rw (sym k.cells_are, sym k.spot_is, sym e)
        (seek-begins known (side-at Side.right) (omega arith))

    pub lower-left : Known E b → height (E (representative b)) < height (E a)
    unfolding pick height
    lower-left known = let whole = ap height q in let low = low-side known (side-at Side.left) in omega arith

    pub lower-right : Known E c → height (E (representative c)) < height (E a)
    unfolding pick height
    lower-right known = let whole = ap height q in let low = low-side known (side-at Side.right) in omega arith

-- no pair
abbrev pub NoPair : Rule → Type 0
NoPair x = (b c : ℕ) → x ≡ Rule.Pair b c → ⊥

-- what isn't a pair is the tree
tree-there : (F : Facts) (E : ℕ → Expression) {w : Expression} (a : ℕ) (x : Rule) {z : Position} {i : ℕ} → NoPair x
    → Fit F Sort.row (rhs a x E) → At w Where.row (rhs a x E) z → i < tops (rhs a x E) → At w Where.tree (rhs a x E) z × (i ≡ 0)
unfolding rhs tops
tree-there F E a Rule.Empty h g k l = absurd (let n : ⊥ = omega arith in n)
tree-there F E a (Rule.Pair b c) h g k l = absurd (h b c refl)
tree-there F E a (Rule.Node y c) h g k l = (At.tree_node k, omega arith)
tree-there F E a (Rule.Fill b c) h g k l = (At.tree_fill k, omega arith)
tree-there F E a (Rule.Part y b c) h (Fit.grown g) k l = elim g [ ]
tree-there F E a (Rule.Join b c) h (Fit.grown g) k l = elim g [ ]

pub seek-ends : (F : Facts) {E : ℕ → Expression} {w : Expression} {a i : ℕ} {cs : Cells} {x : Spot} (y : Rule) → NoPair y
    → E a ≡ rhs a y E
    → (k : Sought E w a i cs x) → Fit F Sort.row (E a) → TreeAt E w a cs x
seek-ends F {E} {a = a} y h q k g =
    let t = tree-there F E a y h (rw q at g) (rw q at k.stands) (rw q at k.below) in
    let e : (spot k.position).0 + 0 ≡ (spot k.position).0 = omega arith in
    record {
      position = k.position;
      row = k.stands;
      stands = rw q t.0;
      cells_are = k.cells_are;
      spot_is = rw (sym k.spot_is, t.1, e);
    }
