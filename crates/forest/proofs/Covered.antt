-- Every position in the expression is a node's: what is located at a position is a stretch of the trees at some path, and each
-- step of the family At goes to a stretch of a stretch. Assumes nothing.
use Prim.Native.Nat.{ℕ}
use mathlib.Core.Path.{◌≡◌, refl, ap}
use mathlib.Core.Bool.{true, false}
use Rattle.std.specs.Prelude.{Some}
use Rattle.std.proofs.lemmas.Option.{none-some, same_Some}
use Rattle.forest.specs.Expression.{Expression}
use Rattle.forest.specs.Forest.{Forest, append}
use Rattle.forest.specs.Place.{Side, is_empty}
use Rattle.forest.specs.Sides.{pick}
use Rattle.forest.specs.Reference.{Path, label_at}
use Rattle.forest.specs.Good.{Sort, Good}
use Rattle.forest.specs.Position.{Position, Located, located, located_of, last_part, continues, Where, At}
use Rattle.forest.proofs.Inside.{Inside, inside-all, inside-side, inside-below, inside-node}
use Rattle.forest.proofs.Rows.{located-right-only, located-left-only, located-pair}

-- the parts of a good expression are good
good-pair : {r : ℕ} {b c : Expression} → Good Sort.row (Expression.pair r b c) → Good Sort.row b × Good Sort.row c
good-pair (Good.pair g h) = (g, h)
good-pair (Good.grown g) = elim g [ ]

good-node : {r a : ℕ} {c : Expression} → Good Sort.tree (Expression.node r a c) → Good Sort.row c
good-node (Good.node g) = g

good-fill : {r : ℕ} {b c : Expression} → Good Sort.tree (Expression.fill r b c) → Good Sort.spine b × Good Sort.tree c
good-fill (Good.fill g h) = (g, h)

good-part : {r a : ℕ} {b c : Expression} → Good Sort.spine (Expression.part r a b c) → Good Sort.row b × Good Sort.row c
good-part (Good.part g h) = (g, h)

good-join : {r : ℕ} {b c : Expression} → Good Sort.spine (Expression.join r b c) → Good Sort.spine b × Good Sort.spine c
good-join (Good.join g h) = (g, h)

good-row-node : {r a : ℕ} {c : Expression} → Good Sort.row (Expression.node r a c) → Good Sort.tree (Expression.node r a c)
good-row-node (Good.grown g) = g

good-row-fill : {r : ℕ} {b c : Expression} → Good Sort.row (Expression.fill r b c) → Good Sort.tree (Expression.fill r b c)
good-row-fill (Good.grown g) = g

good-side : (s : Sort) (t : Side) {b c : Expression} → Good s b × Good s c → Good s (pick t b c)
unfolding pick
good-side s Side.left g = g.0
good-side s Side.right g = g.1

-- the row or tree e, located at z, is inside the forest
record Found (w : Expression) (s : Sort) (e : Expression) (z : Position) : Type 0 where
  good : Good s e
  hole : Position → Forest Located
  inside : Inside Located (located e z hole) (located_of w)

-- the spine e, located at z, is inside the forest, and its hole holds the tree that continues it
record Threaded (w e : Expression) (z : Position) : Type 0 where
  good : Good Sort.spine e
  hole : Position → Forest Located
  inside : Inside Located (located e z hole) (located_of w)
  filled : (c : Expression) → continues z ≡ Some c → Good Sort.tree c × ((rest : Position → Forest Located) × ((y : Position) → hole y ≡ located c y rest))

-- so is a node
record Standing (w : Expression) (r a : ℕ) (c : Expression) (z : Position) : Type 0 where
  good : Good Sort.row c
  hole : Position → Forest Located
  inside : Inside Located (Forest.tree (Expression.node r a c, z) (located c (Position.node_row r a c z) hole) Forest.none) (located_of w)

Here : Expression → Expression → Position → Type 0
Here w (Expression.empty r) z = ⊥
Here w (Expression.pair r b c) z = ⊥
Here w (Expression.node r a c) z = Standing w r a c z
Here w (Expression.fill r b c) z = ⊥
Here w (Expression.part r a b c) z = Threaded w (Expression.part r a b c) z
Here w (Expression.join r b c) z = ⊥

Reaches : Expression → Where → Expression → Position → Type 0
unfolding Here
Reaches w Where.row e z = Found w Sort.row e z
Reaches w Where.tree e z = Found w Sort.tree e z
Reaches w Where.spine e z = Threaded w e z
Reaches w Where.here e z = Here w e z

-- what stands in a spine's hole is inside the spine
inside-hole : {e : Expression} {g : Forest Located} → Good Sort.spine e → (z : Position) (hole : Position → Forest Located) → Inside Located (located e z hole) g → Inside Located (hole (last_part e z).1) g
unfolding located last_part pick
inside-hole (Good.part {r} {a} {b} {c} g h) z hole k =
    inside-side Side.left (hole z) (located c (Position.part_row Side.right r a b c z) hole)
    (inside-side Side.right (located b (Position.part_row Side.left r a b c z) hole) (append (hole z) (located c (Position.part_row Side.right r a b c z) hole)) (inside-below k))
inside-hole (Good.join {r} {b = b} {c = c} g h) z hole k =
    inside-hole h (Position.join_side Side.right r b c z) hole
    (inside-hole g (Position.join_side Side.left r b c z) (λ around. located c (Position.join_side Side.right r b c z) hole) k)

pick-located : (s : Side) (b c : Expression) (at : Side → Position) (hole : Position → Forest Located) → pick s (located b (at Side.left) hole) (located c (at Side.right) hole) ≡ located (pick s b c) (at s) hole
unfolding pick
pick-located Side.left b c at hole = refl
pick-located Side.right b c at hole = refl

-- an arm of a part is inside the part
inside-arm : (s : Side) {a : Located} (f h g : Forest Located) {k : Forest Located} → Inside Located (Forest.tree a (append f (append h g)) Forest.none) k → Inside Located (pick s f g) k
unfolding pick
inside-arm Side.left f h g i = inside-side Side.left f (append h g) (inside-below i)
inside-arm Side.right f h g i = inside-side Side.right h g (inside-side Side.right f (append h g) (inside-below i))

module _ {w : Expression} where
  found_side : {r : ℕ} {b c : Expression} {z : Position} (s : Side) → Found w Sort.row (Expression.pair r b c) z → is_empty b ≡ false → is_empty c ≡ false → Found w Sort.row (pick s b c) (Position.pair_side s r b c z)
  found_side {r} {b} {c} {z} s k u v =
      record {
        good = good-side Sort.row s (good-pair k.good);
        hole = k.hole;
        inside = rw (pick-located s b c (λ t. Position.pair_side t r b c z) k.hole) at (inside-side s (located b (Position.pair_side Side.left r b c z) k.hole) (located c (Position.pair_side Side.right r b c z) k.hole) (rw (located-pair r b c z k.hole u v) at k.inside));
      }

  found_right : {r : ℕ} {b c : Expression} {z : Position} → Found w Sort.row (Expression.pair r b c) z → is_empty b ≡ true → Found w Sort.row c z
  found_right {r} {b} {c} {z} k u = record { good = (good-pair k.good).1; hole = k.hole; inside = rw (located-right-only r b c z k.hole u) at k.inside }

  found_left : {r : ℕ} {b c : Expression} {z : Position} → Found w Sort.row (Expression.pair r b c) z → is_empty b ≡ false → is_empty c ≡ true → Found w Sort.row b z
  found_left {r} {b} {c} {z} k u v = record { good = (good-pair k.good).0; hole = k.hole; inside = rw (located-left-only r b c z k.hole u v) at k.inside }

  found-tree : {e : Expression} {z : Position} → Found w Sort.row e z → Good Sort.tree e → Found w Sort.tree e z
  found-tree k g = record { good = g; hole = k.hole; inside = k.inside }

  found-under : {r a : ℕ} {c : Expression} {z : Position} → Standing w r a c z → Found w Sort.row c (Position.node_row r a c z)
  found-under k = record { good = k.good; hole = k.hole; inside = inside-below k.inside }

  found-node : {r a : ℕ} {c : Expression} {z : Position} → Found w Sort.tree (Expression.node r a c) z → Standing w r a c (Position.node_spine r a c z)
  unfolding located
  found-node k = record { good = good-node k.good; hole = k.hole; inside = k.inside }

  found-fill : {r : ℕ} {b c : Expression} {z : Position} → Found w Sort.tree (Expression.fill r b c) z → Threaded w b (Position.fill_spine r b c z)
  unfolding located continues
  found-fill {r} {b} {c} {z} k =
      record {
        good = (good-fill k.good).0;
        hole = λ last. located c last k.hole;
        inside = k.inside;
        filled = λ d e. let q : c ≡ d = same_Some c d e in (rw q at (good-fill k.good).1, (k.hole, λ y. ap (λ x. located x y k.hole) q));
      }

  found-join : {r : ℕ} {b c : Expression} {z : Position} (s : Side) → Threaded w (Expression.join r b c) z → Threaded w (pick s b c) (Position.join_side s r b c z)
  unfolding located continues pick
  found-join {r} {b} {c} {z} Side.left k =
      record {
        good = (good-join k.good).0;
        hole = λ around. located c (Position.join_side Side.right r b c z) k.hole;
        inside = k.inside;
        filled = λ d e. absurd (none-some d e);
      }
  found-join {r} {b} {c} {z} Side.right k =
      record {
        good = (good-join k.good).1;
        hole = k.hole;
        inside = inside-hole (good-join k.good).0 (Position.join_side Side.left r b c z) (λ around. located c (Position.join_side Side.right r b c z) k.hole) k.inside;
        filled = k.filled;
      }

  found-arm : {r a : ℕ} {b c : Expression} {z : Position} (s : Side) → Threaded w (Expression.part r a b c) z → Found w Sort.row (pick s b c) (Position.part_row s r a b c z)
  unfolding located
  found-arm {r} {a} {b} {c} {z} s k =
      record {
        good = good-side Sort.row s (good-part k.good);
        hole = k.hole;
        inside = rw (pick-located s b c (λ t. Position.part_row t r a b c z) k.hole) at (inside-arm s (located b (Position.part_row Side.left r a b c z) k.hole) (k.hole z) (located c (Position.part_row Side.right r a b c z) k.hole) k.inside);
      }

  found-hole : {r a : ℕ} {b c e : Expression} {z : Position} → Threaded w (Expression.part r a b c) z → continues z ≡ Some e → Found w Sort.tree e z
  unfolding last_part
  found-hole {e = e} {z = z} k n =
      record { good = (k.filled e n).0; hole = (k.filled e n).1.0; inside = rw ((k.filled e n).1.1 z) at (inside-hole k.good z k.hole k.inside) }

  reaches : {p : Where} {e : Expression} {z : Position} → Good Sort.row w → At w p e z → Reaches w p e z
  unfolding Reaches located_of
  reaches g At.start = record { good = g; hole = λ around. Forest.none; inside = inside-all (located_of w) }
  reaches g (At.side s k u v) = found_side s (reaches g k) u v
  reaches g (At.only_right k u) = found_right (reaches g k) u
  reaches g (At.only_left k u v) = found_left (reaches g k) u v
  reaches g (At.tree_node k) = found-tree (reaches g k) (good-row-node (reaches g k).good)
  reaches g (At.tree_fill k) = found-tree (reaches g k) (good-row-fill (reaches g k).good)
  reaches g (At.node k) = found-node (reaches g k)
  reaches g (At.under k) = found-under (reaches g k)
  reaches g (At.fill k) = found-fill (reaches g k)
  reaches g (At.join s k) = found-join s (reaches g k)
  reaches g (At.part k) = reaches g k
  reaches g (At.arm s k) = found-arm s (reaches g k)
  reaches g (At.hole k n) = found-hole (reaches g k) n

-- every position of a node is that of a node in the forest
pub at_node : {w e : Expression} {z : Position} → Good Sort.row w → At w Where.here e z → (p : Path) × (label_at (located_of w) p ≡ Some (e, z))
unfolding Reaches located
at_node g (At.node k) = inside-node (found-node (reaches g k)).inside
at_node g (At.part k) = inside-node (reaches g k).inside
