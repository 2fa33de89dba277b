-- The trees of a row know their neighbours: a row is empty, one tree, or two rows side by side, the first of which is beside
-- the other's first tree and the second beside the first's last. Assumes nothing.
use Prim.Native.Nat.{ℕ}
use mathlib.Core.Path.{◌≡◌, refl, sym, ◌∙◌, ap₂}
use mathlib.Core.Bool.{true, false, true≢false}
use Rattle.std.specs.Prelude.{Option, Some, None}
use Rattle.forest.specs.Expression.{Expression}
use Rattle.forest.specs.Forest.{Forest, append}
use Rattle.forest.specs.Place.{Side, is_empty}
use Rattle.forest.specs.Sides.{pick}
use Rattle.forest.specs.Position.{or_else, Position, Located, located, opened, enter, part_at, outward, row_of, leave, row_parent}
use Rattle.forest.specs.Good.{Sort, Good}
use Rattle.forest.proofs.Cases.{by_bool}
use Rattle.forest.proofs.Neighbours.{Knows, edge, edge-append, knows-append}
use Rattle.forest.proofs.Holes.{positions, One, opened-outward, opened-row, parent_row, sibling-row}

-- the laws of a pair, by which of its sides are empty
module _ (r : ℕ) (b c : Expression) (z : Position) where
  pub enter-right-only : (s : Side) → is_empty b ≡ true → enter s (Expression.pair r b c) z ≡ enter s c z
  unfolding enter
  enter-right-only s u = rw u

  pub enter-left-only : (s : Side) → is_empty b ≡ false → is_empty c ≡ true → enter s (Expression.pair r b c) z ≡ enter s b z
  unfolding enter
  enter-left-only s u v = rw (u, v)

  pub enter-pair : (s : Side) → is_empty b ≡ false → is_empty c ≡ false → enter s (Expression.pair r b c) z ≡ pick s (enter s b (Position.pair_side Side.left r b c z)) (enter s c (Position.pair_side Side.right r b c z))
  unfolding enter
  enter-pair s u v = rw (u, v)

  module _ (hole : Position → Forest Located) where
    pub located-right-only : is_empty b ≡ true → located (Expression.pair r b c) z hole ≡ located c z hole
    unfolding located
    located-right-only u = rw u

    pub located-left-only : is_empty b ≡ false → is_empty c ≡ true → located (Expression.pair r b c) z hole ≡ located b z hole
    unfolding located
    located-left-only u v = rw (u, v)

    pub located-pair : is_empty b ≡ false → is_empty c ≡ false → located (Expression.pair r b c) z hole ≡ append (located b (Position.pair_side Side.left r b c z) hole) (located c (Position.pair_side Side.right r b c z) hole)
    unfolding located
    located-pair u v = rw (u, v)

-- a row that isn't empty has a first and a last tree
pub enter-tree : {e : Expression} → Good Sort.tree e → (s : Side) (z : Position) → enter s e z ≡ Some (opened e z)
unfolding enter
enter-tree (Good.node g) s z = refl
enter-tree (Good.fill g h) s z = refl

some-pick : {x y : Option Located} (s : Side) → (a : Located) × (x ≡ Some a) → (b : Located) × (y ≡ Some b) → (c : Located) × (pick s x y ≡ Some c)
unfolding pick
some-pick Side.left p q = p
some-pick Side.right p q = q

pub enter-some : {e : Expression} → Good Sort.row e → is_empty e ≡ false → (s : Side) (z : Position) → (x : Located) × (enter s e z ≡ Some x)
unfolding is_empty
enter-some Good.empty n s z = absurd (true≢false n)
enter-some (Good.grown {e} g) n s z = (opened e z, enter-tree g s z)
enter-some (Good.pair {r} {b = b} {c = c} g h) n s z =
    by_bool (is_empty b) (λ u. rw (enter-right-only r b c z s u) (enter-some h (rw u at n) s z))
    (λ u. by_bool (is_empty c) (λ v. rw (enter-left-only r b c z s u v) (enter-some g u s z))
    (λ v. rw (enter-pair r b c z s u v) (some-pick s (enter-some g u s (Position.pair_side Side.left r b c z)) (enter-some h v s (Position.pair_side Side.right r b c z)))))

pub or_some : {x : Option Located} → (a : Located) × (x ≡ Some a) → (y : Option Located) → or_else x y ≡ x
unfolding or_else
or_some (a, p) y = rw p

-- g is the row e at z: its first and last roots, and its trees know their neighbours
pub record Row (e : Expression) (z : Position) (g : Forest Located) : Type 0 where
  pub knows : Knows Located positions (row_parent z) (leave Side.left z) (leave Side.right z) g
  pub root : (s : Side) → edge s g ≡ enter s e z

pub row-empty : (r : ℕ) (z : Position) → Row (Expression.empty r) z Forest.none
unfolding enter edge
row-empty r z = record { knows = Knows.none; root = λ s. refl }

pub row-tree : {e : Expression} {z : Position} {g : Forest Located} → Good Sort.tree e → part_at z ≡ None → One (opened e z) g → Row e z g
row-tree {e} {z} t n o =
    let h : outward (opened e z).1 ≡ None = opened-outward t z ∙ n in
    let k : row_of (opened e z).1 ≡ z = opened-row t z in
    record {
      knows = rw (parent_row (opened e z).1 h, sibling-row Side.left (opened e z).1 h, sibling-row Side.right (opened e z).1 h, k) at o.knows;
      root = λ s. o.root s ∙ sym (enter-tree t s z);
    }

pub row-beside : {r : ℕ} {b c : Expression} {z : Position} {f g : Forest Located} → Good Sort.row b → Good Sort.row c → is_empty b ≡ false → is_empty c ≡ false
    → Row b (Position.pair_side Side.left r b c z) f
    → Row c (Position.pair_side Side.right r b c z) g
    → Row (Expression.pair r b c) z (append f g)
unfolding leave row_parent
row-beside {r} {b} {c} {z} {f} {g} i j u v x y =
    let p : (s : Side) → (a : Located) × (edge s f ≡ Some a) = λ s. rw (x.root s) (enter-some i u s (Position.pair_side Side.left r b c z)) in
    let q : (s : Side) → (a : Located) × (edge s g ≡ Some a) = λ s. rw (y.root s) (enter-some j v s (Position.pair_side Side.right r b c z)) in
    record {
      knows = knows-append (rw (or_some (q Side.left) (leave Side.right z), y.root Side.left) x.knows) (rw (or_some (p Side.right) (leave Side.left z), x.root Side.right) y.knows);
      root = λ s. edge-append s f g ∙ or_some (some-pick s (p s) (q s)) (pick s (edge s g) (edge s f)) ∙ ap₂ (pick s) (x.root s) (y.root s) ∙ sym (enter-pair r b c z s u v);
    }

pub row-right-only : {r : ℕ} {b c : Expression} {z : Position} {g : Forest Located} → is_empty b ≡ true → Row c z g → Row (Expression.pair r b c) z g
row-right-only {r} {b} {c} {z} u x = record { knows = x.knows; root = λ s. x.root s ∙ sym (enter-right-only r b c z s u) }

pub row-left-only : {r : ℕ} {b c : Expression} {z : Position} {g : Forest Located} → is_empty b ≡ false → is_empty c ≡ true → Row b z g → Row (Expression.pair r b c) z g
row-left-only {r} {b} {c} {z} u v x = record { knows = x.knows; root = λ s. x.root s ∙ sym (enter-left-only r b c z s u v) }
