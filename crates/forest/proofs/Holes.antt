-- One tree of the located forest, and what stands in a spine's hole. The root of a tree or spine is the first part opened
-- there, and the last part of a spine is where its hole is; both are found by following the spine, which changes neither what lies
-- outside of it nor what continues it. Assumes nothing.
use mathlib.Core.Path.{◌≡◌, refl}
use Rattle.std.specs.Prelude.{Option, Some, None}
use Rattle.forest.specs.Expression.{Expression}
use Rattle.forest.specs.Forest.{Forest}
use Rattle.forest.specs.Place.{Side}
use Rattle.forest.specs.Sides.{pick}
use Rattle.forest.specs.Position.{or_else, Position, Located, opened, last_part, inward, part_at, outward, row_of, leave, row_parent, child, beside_hole, sibling, parent, continues}
use Rattle.forest.specs.Good.{Sort, Good}
use Rattle.forest.proofs.Neighbours.{Neighbours, Knows, edge}

-- the neighbours of a position
abbrev pub positions : Neighbours Located
positions = record { up = λ a. parent a.1; next = λ s a. sibling s a.1; down = λ s a. child s a.0 a.1 }

-- the root of a spine stands where the spine does
pub opened-spine-outward : {e : Expression} → Good Sort.spine e → (z : Position) → outward (opened e z).1 ≡ outward z
unfolding outward opened
opened-spine-outward (Good.part b c) z = refl
opened-spine-outward (Good.join {r} {b = b} {c = c} g h) z = opened-spine-outward g (Position.join_side Side.left r b c z)

pub opened-spine-row : {e : Expression} → Good Sort.spine e → (z : Position) → row_of (opened e z).1 ≡ row_of z
unfolding row_of opened
opened-spine-row (Good.part b c) z = refl
opened-spine-row (Good.join {r} {b = b} {c = c} g h) z = opened-spine-row g (Position.join_side Side.left r b c z)

-- the root of a tree stands in the hole of the part at its position, or in the row there
pub opened-outward : {e : Expression} → Good Sort.tree e → (z : Position) → outward (opened e z).1 ≡ part_at z
unfolding outward opened
opened-outward (Good.node c) z = refl
opened-outward (Good.fill {r} {b = b} {c = c} g h) z = opened-spine-outward g (Position.fill_spine r b c z)

pub opened-row : {e : Expression} → Good Sort.tree e → (z : Position) → row_of (opened e z).1 ≡ z
unfolding row_of opened
opened-row (Good.node c) z = refl
opened-row (Good.fill {r} {b = b} {c = c} g h) z = opened-spine-row g (Position.fill_spine r b c z)

-- the last part of a spine continues as the spine does, and is a part
pub last-inward : {e : Expression} → Good Sort.spine e → (p z : Position) → inward p (last_part e z).1 ≡ inward p z
unfolding inward last_part
last-inward (Good.part b c) p z = refl
last-inward (Good.join {r} {b = b} {c = c} g h) p z = last-inward h p (Position.join_side Side.right r b c z)

pub last-continues : {e : Expression} → Good Sort.spine e → (z : Position) → continues (last_part e z).1 ≡ continues z
unfolding continues last_part
last-continues (Good.part b c) z = refl
last-continues (Good.join {r} {b = b} {c = c} g h) z = last-continues h (Position.join_side Side.right r b c z)

pub last-part : {e : Expression} → Good Sort.spine e → (z : Position) → part_at z ≡ Some (e, z) → part_at (last_part e z).1 ≡ Some (last_part e z)
unfolding part_at last_part pick
last-part (Good.part b c) z p = p
last-part (Good.join {r} {b = b} {c = c} g h) z p = last-part h (Position.join_side Side.right r b c z) refl

-- the parent and the siblings of a node in a hole, and of one in a row
pub parent-hole : (z : Position) {q : Located} → outward z ≡ Some q → parent z ≡ Some q
unfolding parent or_else
parent-hole z e = rw e

pub parent_row : (z : Position) → outward z ≡ None → parent z ≡ row_parent (row_of z)
unfolding parent or_else
parent_row z e = rw e

pub sibling-hole : (s : Side) (z : Position) {q : Located} → outward z ≡ Some q → sibling s z ≡ beside_hole s q.0 q.1
unfolding sibling
sibling-hole s z e = rw e

pub sibling-row : (s : Side) (z : Position) → outward z ≡ None → sibling s z ≡ leave s (row_of z)
unfolding sibling
sibling-row s z e = rw e

-- g is one tree, with root x, that knows its neighbours
pub record One (x : Located) (g : Forest Located) : Type 0 where
  pub knows : Knows Located positions (parent x.1) (sibling Side.left x.1) (sibling Side.right x.1) g
  pub root : (s : Side) → edge s g ≡ Some x

pub one : {x : Located} {c : Forest Located} → ((s : Side) → child s x.0 x.1 ≡ edge s c) → Knows Located positions (Some x) None None c → One x (Forest.tree x c Forest.none)
unfolding edge or_else
one {x} {c} d k =
    record {
      knows = Knows.tree refl refl refl d k Knows.none;
      root = λ s. elim s as (λ k. edge k (Forest.tree x c Forest.none) ≡ Some x) [ Side.left ↦ refl | Side.right ↦ refl ];
    }

-- the hole of the part q holds one tree, which stands in q's hole and is reached inward from q
pub record Fills (hole : Position → Forest Located) (q : Located) : Type 0 where
  pub root : Located
  pub tree : One root (hole q.1)
  pub inside : inward q.1 q.1 ≡ Some root
  pub outside : outward root.1 ≡ Some q
