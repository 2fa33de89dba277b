-- Every node of the located forest of a closed expression knows its neighbours: by structural induction over the sorts. A row
-- knows what its position says is beside it, a tree and a spine are one tree, and what a spine's hole holds is one tree that stands in
-- the spine's last part. Assumes nothing.
use Prim.Native.Nat.{ℕ}
use mathlib.Core.Path.{◌≡◌, refl, sym, ◌∙◌, ap₂}
use Rattle.std.specs.Prelude.{Option, None}
use Rattle.forest.specs.Expression.{Expression}
use Rattle.forest.specs.Forest.{Forest, append}
use Rattle.forest.specs.Place.{Side, is_empty}
use Rattle.forest.specs.Sides.{other, pick}
use Rattle.forest.specs.Position.{or_else, Position, Located, located, located_of, opened, last_part, enter, inward, part_at, outward, leave, row_parent, child, beside_hole}
use Rattle.forest.specs.Good.{Sort, Good}
use Rattle.forest.proofs.Cases.{by_bool}
use Rattle.forest.proofs.Neighbours.{Knows, edge, edge-around, knows-around, or-none}
use Rattle.forest.proofs.Holes.{positions, One, one, Fills, opened-outward, last-part, last-inward, parent-hole, sibling-hole, opened-spine-outward}
use Rattle.forest.proofs.Rows.{Row, row-empty, row-tree, row-beside, row-right-only, row-left-only, located-right-only, located-left-only, located-pair}

-- what is shown of an expression, by its sort
Holds : Sort → Expression → Type 0
Holds Sort.row e = (z : Position) (hole : Position → Forest Located) → part_at z ≡ None → Row e z (located e z hole)
Holds Sort.tree e = (z : Position) (hole : Position → Forest Located) → One (opened e z) (located e z hole)
Holds Sort.spine e = (z : Position) (hole : Position → Forest Located) → Fills hole (last_part e z) → One (opened e z) (located e z hole)

holds-pair : (r : ℕ) (b c : Expression) → Good Sort.row b → Good Sort.row c → Holds Sort.row b → Holds Sort.row c → Holds Sort.row (Expression.pair r b c)
unfolding Holds part_at
holds-pair r b c g h x y z hole n =
    by_bool (is_empty b) (λ u. rw (located-right-only r b c z hole u) (row-right-only u (y z hole n)))
    (λ u. by_bool (is_empty c) (λ v. rw (located-left-only r b c z hole u v) (row-left-only u v (x z hole n)))
    (λ v. rw (located-pair r b c z hole u v) (row-beside g h u v (x (Position.pair_side Side.left r b c z) hole refl) (y (Position.pair_side Side.right r b c z) hole refl))))

holds-node : (r a : ℕ) (c : Expression) → Holds Sort.row c → Holds Sort.tree (Expression.node r a c)
unfolding Holds located opened child part_at row_parent leave
holds-node r a c x z hole =
    let y : Row c (Position.node_row r a c (Position.node_spine r a c z)) (located c (Position.node_row r a c (Position.node_spine r a c z)) hole) = x (Position.node_row r a c (Position.node_spine r a c z)) hole refl in
    one (λ s. sym (y.root s)) y.knows

holds-fill : (r : ℕ) (b c : Expression) → Good Sort.spine b → Good Sort.tree c → Holds Sort.spine b → Holds Sort.tree c → Holds Sort.tree (Expression.fill r b c)
unfolding Holds located opened part_at inward
holds-fill r b c g h x y z hole =
    let q : Located = last_part b (Position.fill_spine r b c z) in
    x (Position.fill_spine r b c z) (λ last. located c last hole) (record {
      root = opened c q.1;
      tree = y q.1 hole;
      inside = last-inward g q.1 (Position.fill_spine r b c z);
      outside = opened-outward h q.1 ∙ last-part g (Position.fill_spine r b c z) refl;
    })

holds-join : (r : ℕ) (b c : Expression) → Good Sort.spine b → Good Sort.spine c → Holds Sort.spine b → Holds Sort.spine c → Holds Sort.spine (Expression.join r b c)
unfolding Holds located opened last_part inward outward
holds-join r b c g h x y z hole f =
    let q : Located = last_part b (Position.join_side Side.left r b c z) in
    x (Position.join_side Side.left r b c z) (λ around. located c (Position.join_side Side.right r b c z) hole) (record {
      root = opened c (Position.join_side Side.right r b c z);
      tree = y (Position.join_side Side.right r b c z) hole f;
      inside = last-inward g q.1 (Position.join_side Side.left r b c z);
      outside = opened-spine-outward h (Position.join_side Side.right r b c z);
    })

part-ends : {r a : ℕ} {b c : Expression} {z : Position} {f g : Forest Located} → Row b (Position.part_row Side.left r a b c z) f → Row c (Position.part_row Side.right r a b c z) g
    → (s : Side) → pick s (edge s f) (edge s g) ≡ enter s (pick s b c) (Position.part_row s r a b c z)
unfolding pick
part-ends x y Side.left = x.root Side.left
part-ends x y Side.right = y.root Side.right

one-part : {r a : ℕ} {b c : Expression} {z : Position} {hole : Position → Forest Located} {f g : Forest Located} → Row b (Position.part_row Side.left r a b c z) f → Row c (Position.part_row Side.right r a b c z) g → Fills hole (Expression.part r a b c, z)
    → One (Expression.part r a b c, z) (Forest.tree (Expression.part r a b c, z) (append f (append (hole z) g)) Forest.none)
unfolding child beside_hole row_parent leave pick other
one-part {z = z} {hole = hole} {f = f} {g = g} x y k =
    one (λ s. sym (edge-around s f (hole z) g k.tree.root ∙ ap₂ or_else (part-ends x y s) (sym k.inside)))
    (knows-around k.tree.root (rw k.inside at x.knows)
    (rw (or-none (edge Side.right f), or-none (edge Side.left g), x.root Side.right, y.root Side.left) (rw (parent-hole k.root.1 k.outside, sibling-hole Side.left k.root.1 k.outside, sibling-hole Side.right k.root.1 k.outside) at k.tree.knows))
    (rw k.inside at y.knows))

holds-part : (r a : ℕ) (b c : Expression) → Holds Sort.row b → Holds Sort.row c → Holds Sort.spine (Expression.part r a b c)
unfolding Holds located opened last_part part_at
holds-part r a b c x y z hole k = one-part {hole = hole} (x (Position.part_row Side.left r a b c z) hole refl) (y (Position.part_row Side.right r a b c z) hole refl) k

holds : {s : Sort} {e : Expression} → Good s e → Holds s e
unfolding Holds located
holds (Good.empty {r}) = λ z hole n. row-empty r z
holds (Good.pair {r} {b = b} {c = c} g h) = holds-pair r b c g h (holds g) (holds h)
holds (Good.grown g) = λ z hole n. row-tree g n (holds g z hole)
holds (Good.node {r} {a} {c} g) = holds-node r a c (holds g)
holds (Good.fill {r} {b = b} {c = c} g h) = holds-fill r b c g h (holds g) (holds h)
holds (Good.part {r} {a} {b} {c} g h) = holds-part r a b c (holds g) (holds h)
holds (Good.join {r} {b = b} {c = c} g h) = holds-join r b c g h (holds g) (holds h)

-- every node of the located forest knows its neighbours
pub located-knows : {w : Expression} → Good Sort.row w → Knows Located positions None None None (located_of w)
unfolding Holds located_of part_at row_parent leave
located-knows {w} g = (holds g (Position.start w) (λ around. Forest.none) refl).knows

-- and its first and last roots are entered at the start
pub located-root : {w : Expression} → Good Sort.row w → (s : Side) → edge s (located_of w) ≡ enter s w (Position.start w)
unfolding Holds located_of part_at
located-root {w} g s = (holds g (Position.start w) (λ around. Forest.none) refl).root s
