-- The spot of a position is where its node stands: what is located at a position is a stretch of trees at its spot, as many as its
-- expression has, and each step of the family At goes to the stretch at the next position's spot. So a node's path, and how many children
-- it has, are told by counts. Assumes nothing.
use Prim.Native.Nat.{ℕ, zero, suc, ◌+◌, ◌≤◌}
use native.Mathlib.Omega.{arith}
use mathlib.Core.Path.{◌≡◌, refl, sym, ◌∙◌, ap, ap₂}
use mathlib.Core.Bool.{true, false, and-eq-true_iff, false≢true}
use mathlib.Core.List.{[], ◌∷◌}
use Rattle.std.specs.Prelude.{None, Some}
use Rattle.std.proofs.lemmas.Option.{none-some, same_Some}
use Rattle.forest.specs.Expression.{Expression}
use Rattle.forest.specs.Forest.{Forest, append, count}
use Rattle.forest.specs.Place.{Side, is_empty}
use Rattle.forest.specs.Sides.{pick}
use Rattle.forest.specs.Reference.{Path, later, from, below, top, children_at, label_at}
use Rattle.forest.specs.Good.{Sort, Good}
use Rattle.forest.specs.Position.{Position, Located, located, located_of, last_part, part_at, continues, Where, At}
use Rattle.forest.proofs.Append.{append-none, append-append}
use Rattle.forest.proofs.Counts.{count-append}
use Rattle.forest.proofs.Cases.{by_bool}
use Rattle.forest.proofs.Rows.{located-right-only, located-left-only, located-pair}
use Rattle.transfer_path.specs.Spot.{Spot, path_to, tops, through, opening_of, opening, spot}

-- an expression without trees
pub tops-empty : (e : Expression) → is_empty e ≡ true → tops e ≡ 0
unfolding is_empty tops
tops-empty (Expression.empty r) u = refl
tops-empty (Expression.pair r b c) u =
    let x = (and-eq-true_iff (is_empty b) (is_empty c)).0 u in
    omega (arith, tops-empty b x.0, tops-empty c x.1)
tops-empty (Expression.node r a c) u = absurd (false≢true u)
tops-empty (Expression.fill r b c) u = absurd (false≢true u)
tops-empty (Expression.part r a b c) u = absurd (false≢true u)
tops-empty (Expression.join r b c) u = absurd (false≢true u)

-- how many trees are located
located-one : {e : Expression} → Good Sort.spine e → (z : Position) (hole : Position → Forest Located) → count (located e z hole) ≡ 1
unfolding located count
located-one (Good.part g h) z hole = refl
located-one (Good.join {r} {b} {c} g h) z hole =
    located-one g (Position.join_side Side.left r b c z) (λ around. located c (Position.join_side Side.right r b c z) hole)

tree-one : {e : Expression} → Good Sort.tree e → (z : Position) (hole : Position → Forest Located) → count (located e z hole) ≡ 1
unfolding located count
tree-one (Good.node g) z hole = refl
tree-one (Good.fill {r} {b} {c} g h) z hole = located-one g (Position.fill_spine r b c z) (λ last. located c last hole)

tree-tops : {e : Expression} → Good Sort.tree e → tops e ≡ 1
unfolding tops
tree-tops (Good.node g) = refl
tree-tops (Good.fill g h) = refl

located-count : {e : Expression} → Good Sort.row e → (z : Position) (hole : Position → Forest Located) → count (located e z hole) ≡ tops e
unfolding tops
located-count Good.empty z hole = unfold located count in refl
located-count (Good.grown g) z hole = tree-one g z hole ∙ sym (tree-tops g)
located-count (Good.pair {r} {b} {c} g h) z hole =
    by_bool (is_empty b)
    (λ u. ap count (located-right-only r b c z hole u) ∙ located-count h z hole ∙ omega (arith, tops-empty b u))
    (λ u. by_bool (is_empty c)
    (λ v. ap count (located-left-only r b c z hole u v) ∙ located-count g z hole ∙ omega (arith, tops-empty c v))
    (λ v.
    ap count (located-pair r b c z hole u v)
    ∙ count-append (located b (Position.pair_side Side.left r b c z) hole) (located c (Position.pair_side Side.right r b c z) hole)
    ∙ ap₂ ◌+◌ (located-count g (Position.pair_side Side.left r b c z) hole) (located-count h (Position.pair_side Side.right r b c z) hole)))

-- trees left out one after another
later-none : {A : Type 0} (i : ℕ) → later {A = A} i Forest.none ≡ Forest.none
unfolding later
later-none zero = refl
later-none (suc i) = refl

later_more : {A : Type 0} (i j : ℕ) (g : Forest A) → later (i + j) g ≡ later j (later i g)
unfolding later
later_more zero j g = ap (λ k. later k g) (let e : 0 + j ≡ j = omega arith in e)
later_more (suc i) j Forest.none = later-none (suc i + j) ∙ sym (later-none j)
later_more (suc i) j (Forest.tree a c f) = ap (λ k. later k (Forest.tree a c f)) (let e : suc i + j ≡ suc (i + j) = omega arith in e) ∙ later_more i j f

later-append : {A : Type 0} (f g : Forest A) → later (count f) (append f g) ≡ g
unfolding later count append
later-append Forest.none g = refl
later-append (Forest.tree a c f) g = later-append f g

later-count : {A : Type 0} {n : ℕ} (f g : Forest A) → count f ≡ n → later n (append f g) ≡ g
later-count f g e = ap (λ k. later k (append f g)) (sym e) ∙ later-append f g

-- the trees of f stand one after the other from spot x of g on
record Spotted (f g : Forest Located) (x : Spot) : Type 0 where
  rest : Forest Located
  stretch : later x.0 (children_at g x.1) ≡ append f rest

module _ (f h : Forest Located) {g : Forest Located} {x : Spot} where
  spotted-first : Spotted (append f h) g x → Spotted f g x
  spotted-first k = record { rest = append h k.rest; stretch = k.stretch ∙ append-append f h k.rest }

  spotted-second : {n : ℕ} → count f ≡ n → Spotted (append f h) g x → Spotted h g (x.0 + n, x.1)
  spotted-second {n} e k =
      record {
        rest = k.rest;
        stretch =
            later_more x.0 n (children_at g x.1)
            ∙ ap (later n) (k.stretch ∙ append-append f h k.rest)
            ∙ later-count f (append h k.rest) e;
      }

-- the children of the node there
children-spotted : {a : Located} {c f g : Forest Located} {x : Spot} → Spotted (Forest.tree a c f) g x → children_at g (path_to x) ≡ c
unfolding children_at from below append
children-spotted k = ap below k.stretch

spotted-below : {a : Located} {c f g : Forest Located} {x : Spot} → Spotted (Forest.tree a c f) g x → Spotted c g (0, path_to x)
unfolding later
spotted-below {c = c} k = record { rest = Forest.none; stretch = children-spotted k ∙ sym (append-none c) }

node-spotted : {a : Located} {c f g : Forest Located} {x : Spot} → Spotted (Forest.tree a c f) g x → label_at g (path_to x) ≡ Some a
unfolding append label_at
node-spotted k = ap top k.stretch

-- e, of that sort, is located at z from spot x of w's forest on
record Found (w : Expression) (s : Sort) (e : Expression) (z : Position) (x : Spot) : Type 0 where
  good : Good s e
  hole : Position → Forest Located
  spotted : Spotted (located e z hole) (located_of w) x

-- a spine, whose hole holds one tree, which is the one that continues it
record Threaded (w e : Expression) (z : Position) : Type 0 where
  good : Good Sort.spine e
  hole : Position → Forest Located
  spotted : Spotted (located e z hole) (located_of w) (spot z)
  one : (y : Position) → count (hole y) ≡ 1
  filled : (c : Expression) → continues z ≡ Some c → Good Sort.tree c × ((rest : Position → Forest Located) × ((y : Position) → hole y ≡ located c y rest))

Here : Expression → Expression → Position → Type 0
Here w (Expression.empty r) z = ⊥
Here w (Expression.pair r b c) z = ⊥
Here w (Expression.node r a c) z =
    Good Sort.row c
    × ((hole : Position → Forest Located)
    × Spotted (Forest.tree (Expression.node r a c, z) (located c (Position.node_row r a c z) hole) Forest.none) (located_of w) (spot z))
Here w (Expression.fill r b c) z = ⊥
Here w (Expression.part r a b c) z = Threaded w (Expression.part r a b c) z
Here w (Expression.join r b c) z = ⊥

Reaches : Expression → Where → Expression → Position → Type 0
unfolding Here
Reaches w Where.row e z = Found w Sort.row e z (spot z)
Reaches w Where.tree e z = Found w Sort.tree e z (opening z (spot z))
Reaches w Where.spine e z = Threaded w e z
Reaches w Where.here e z = Here w e z

-- the hole of a part, and its R, behind the trees of its L
module _ (r a : ℕ) {b : Expression} (c : Expression) (good : Good Sort.row b) (z : Position) (hole : Position → Forest Located) {g : Forest Located} {x : Spot}
    (k : Spotted (located (Expression.part r a b c) z hole) g x) where
  spotted-on : Spotted (append (hole z) (located c (Position.part_row Side.right r a b c z) hole)) g (tops b, path_to x)
  unfolding located
  spotted-on =
      rw (let e : 0 + tops b ≡ tops b = omega arith in e)
      at (spotted-second (located b (Position.part_row Side.left r a b c z) hole) _ (located-count good _ hole) (spotted-below k))

  spotted-right : count (hole z) ≡ 1 → Spotted (located c (Position.part_row Side.right r a b c z) hole) g (suc (tops b), path_to x)
  spotted-right one = rw (let e : tops b + 1 ≡ suc (tops b) = omega arith in e) at (spotted-second (hole z) _ one spotted-on)

-- what stands in a spine's hole
spotted-hole : {e : Expression} {g : Forest Located} {x : Spot} → Good Sort.spine e → (z : Position) (hole : Position → Forest Located)
    → Spotted (located e z hole) g x → Spotted (hole (last_part e z).1) g (through e x)
unfolding located last_part through
spotted-hole (Good.part {r} {a} {c = c} g h) z hole k = spotted-first (hole z) _ (spotted-on r a c g z hole k)
spotted-hole (Good.join {r} {b} {c} g h) z hole k =
    spotted-hole h (Position.join_side Side.right r b c z) hole
    (spotted-hole g (Position.join_side Side.left r b c z) (λ around. located c (Position.join_side Side.right r b c z) hole) k)

-- a tree in a row is opened where it stands
pub opening-row : {w e : Expression} {z : Position} → At w Where.row e z → (x : Spot) → opening z x ≡ x
unfolding opening opening_of part_at
opening-row At.start x = refl
opening-row (At.side s h u v) x = refl
opening-row (At.only_right h u) x = opening-row h x
opening-row (At.only_left h u v) x = opening-row h x
opening-row (At.under h) x = refl
opening-row (At.arm s h) x = refl

-- one at a part behind the trees of its L
pub opening-part : {w e : Expression} {z : Position} → At w Where.spine e z → (x : Spot) → opening z x ≡ through e x
unfolding opening opening_of part_at
opening-part (At.fill h) x = refl
opening-part (At.join s h) x = refl

module _ {w : Expression} where
  found_side : {r : ℕ} {b c : Expression} {z : Position} (s : Side) → Good Sort.row (Expression.pair r b c) → (hole : Position → Forest Located)
      → Spotted (located (Expression.pair r b c) z hole) (located_of w) (spot z) → is_empty b ≡ false → is_empty c ≡ false
      → Found w Sort.row (pick s b c) (Position.pair_side s r b c z) (spot (Position.pair_side s r b c z))
  unfolding pick spot
  found_side {r} {b} {c} {z} Side.left (Good.pair g h) hole k u v =
      record { good = g; hole = hole; spotted = spotted-first _ _ (rw (located-pair r b c z hole u v) at k) }
  found_side {r} {b} {c} {z} Side.right (Good.pair g h) hole k u v =
      record {
        good = h;
        hole = hole;
        spotted = spotted-second _ _ (located-count g (Position.pair_side Side.left r b c z) hole) (rw (located-pair r b c z hole u v) at k);
      }
  found_side s (Good.grown g) hole k u v = elim g [ ]

  found_right : {r : ℕ} {b c : Expression} {z : Position} → Good Sort.row (Expression.pair r b c) → (hole : Position → Forest Located)
      → Spotted (located (Expression.pair r b c) z hole) (located_of w) (spot z) → is_empty b ≡ true → Found w Sort.row c z (spot z)
  found_right {r} {b} {c} {z} (Good.pair g h) hole k u = record { good = h; hole = hole; spotted = rw (located-right-only r b c z hole u) at k }
  found_right (Good.grown g) hole k u = elim g [ ]

  found_left : {r : ℕ} {b c : Expression} {z : Position} → Good Sort.row (Expression.pair r b c) → (hole : Position → Forest Located)
      → Spotted (located (Expression.pair r b c) z hole) (located_of w) (spot z) → is_empty b ≡ false → is_empty c ≡ true → Found w Sort.row b z (spot z)
  found_left {r} {b} {c} {z} (Good.pair g h) hole k u v = record { good = g; hole = hole; spotted = rw (located-left-only r b c z hole u v) at k }
  found_left (Good.grown g) hole k u v = elim g [ ]

  found-tree : {e : Expression} {z : Position} → At w Where.row e z → Good Sort.tree e → Found w Sort.row e z (spot z)
      → Found w Sort.tree e z (opening z (spot z))
  found-tree {z = z} h g k = record { good = g; hole = k.hole; spotted = rw (opening-row h (spot z)) k.spotted }

  node-tree : {r a : ℕ} {c : Expression} {z : Position} → At w Where.row (Expression.node r a c) z → Good Sort.row (Expression.node r a c)
      → Found w Sort.row (Expression.node r a c) z (spot z) → Found w Sort.tree (Expression.node r a c) z (opening z (spot z))
  node-tree h (Good.grown g) k = found-tree h g k

  fill-tree : {r : ℕ} {b c : Expression} {z : Position} → At w Where.row (Expression.fill r b c) z → Good Sort.row (Expression.fill r b c)
      → Found w Sort.row (Expression.fill r b c) z (spot z) → Found w Sort.tree (Expression.fill r b c) z (opening z (spot z))
  fill-tree h (Good.grown g) k = found-tree h g k

  found-node : {r a : ℕ} {c : Expression} {z : Position} → Good Sort.tree (Expression.node r a c)
      → Found w Sort.tree (Expression.node r a c) z (opening z (spot z)) → Here w (Expression.node r a c) (Position.node_spine r a c z)
  unfolding Here located spot
  found-node (Good.node g) k = (g, (k.hole, k.spotted))

  found-under : {r a : ℕ} {c : Expression} {z : Position} → Here w (Expression.node r a c) z
      → Found w Sort.row c (Position.node_row r a c z) (spot (Position.node_row r a c z))
  unfolding Here spot
  found-under k = record { good = k.0; hole = k.1.0; spotted = spotted-below k.1.1 }

  found-fill : {r : ℕ} {b c : Expression} {z : Position} → Good Sort.tree (Expression.fill r b c)
      → Found w Sort.tree (Expression.fill r b c) z (opening z (spot z)) → Threaded w b (Position.fill_spine r b c z)
  unfolding located continues spot
  found-fill {r} {b} {c} {z} (Good.fill g h) k =
      record {
        good = g;
        hole = λ last. located c last k.hole;
        spotted = k.spotted;
        one = λ y. tree-one h y k.hole;
        filled = λ d e. let q : c ≡ d = same_Some c d e in (rw q at h, (k.hole, λ y. ap (λ x. located x y k.hole) q));
      }

  found-join : {r : ℕ} {b c : Expression} {z : Position} (s : Side) → Good Sort.spine (Expression.join r b c) → Threaded w (Expression.join r b c) z
      → Threaded w (pick s b c) (Position.join_side s r b c z)
  unfolding located continues pick spot
  found-join {r} {b} {c} {z} Side.left (Good.join g h) k =
      record {
        good = g;
        hole = λ around. located c (Position.join_side Side.right r b c z) k.hole;
        spotted = k.spotted;
        one = λ y. located-one h (Position.join_side Side.right r b c z) k.hole;
        filled = λ d e. absurd (none-some d e);
      }
  found-join {r} {b} {c} {z} Side.right (Good.join g h) k =
      record {
        good = h;
        hole = k.hole;
        spotted = spotted-hole g (Position.join_side Side.left r b c z) (λ around. located c (Position.join_side Side.right r b c z) k.hole) k.spotted;
        one = k.one;
        filled = k.filled;
      }

  found-arm : {r a : ℕ} {b c : Expression} {z : Position} (s : Side) → Good Sort.spine (Expression.part r a b c) → Threaded w (Expression.part r a b c) z
      → Found w Sort.row (pick s b c) (Position.part_row s r a b c z) (spot (Position.part_row s r a b c z))
  unfolding located pick spot
  found-arm Side.left (Good.part g h) k =
      record { good = g; hole = k.hole; spotted = spotted-first _ _ (spotted-below k.spotted) }
  found-arm {r} {a} {c = c} {z = z} Side.right (Good.part g h) k =
      record { good = h; hole = k.hole; spotted = spotted-right r a c g z k.hole k.spotted (k.one z) }

  found-hole : {r a : ℕ} {b c e : Expression} {z : Position} → At w Where.spine (Expression.part r a b c) z → Threaded w (Expression.part r a b c) z
      → continues z ≡ Some e → Found w Sort.tree e z (opening z (spot z))
  unfolding last_part
  found-hole {e = e} {z = z} h k n =
      record {
        good = (k.filled e n).0;
        hole = (k.filled e n).1.0;
        spotted = rw (opening-part h (spot z)) (rw ((k.filled e n).1.1 z) at (spotted-hole k.good z k.hole k.spotted));
      }

  part-spine : {r a : ℕ} {b c : Expression} {z : Position} → At w Where.here (Expression.part r a b c) z → At w Where.spine (Expression.part r a b c) z
  part-spine (At.part h) = h

  reaches : {p : Where} {e : Expression} {z : Position} → Good Sort.row w → At w p e z → Reaches w p e z
  unfolding Reaches Here located_of spot later children_at
  reaches g At.start = record { good = g; hole = λ around. Forest.none; spotted = record { rest = Forest.none; stretch = sym (append-none (located_of w)) } }
  reaches g (At.side s k u v) = let f = reaches g k in found_side s f.good f.hole f.spotted u v
  reaches g (At.only_right k u) = let f = reaches g k in found_right f.good f.hole f.spotted u
  reaches g (At.only_left k u v) = let f = reaches g k in found_left f.good f.hole f.spotted u v
  reaches g (At.tree_node k) = let f = reaches g k in node-tree k f.good f
  reaches g (At.tree_fill k) = let f = reaches g k in fill-tree k f.good f
  reaches g (At.node k) = let f = reaches g k in found-node f.good f
  reaches g (At.under k) = found-under (reaches g k)
  reaches g (At.fill k) = let f = reaches g k in found-fill f.good f
  reaches g (At.join s k) = let f = reaches g k in found-join s f.good f
  reaches g (At.part k) = reaches g k
  reaches g (At.arm s k) = let f = reaches g k in found-arm s f.good f
  reaches g (At.hole k n) = found-hole (part-spine k) (reaches g k) n

  -- the path that the counts tell is the node's
  pub spot-path : {e : Expression} {z : Position} → Good Sort.row w → At w Where.here e z → label_at (located_of w) (path_to (spot z)) ≡ Some (e, z)
  unfolding Reaches Here located
  spot-path g (At.node k) = node-spotted (reaches g (At.node k)).1.1
  spot-path g (At.part k) = node-spotted (reaches g k).spotted

  -- how many roots there are, and how many children a node has
  pub roots : Good Sort.row w → count (children_at (located_of w) []) ≡ tops w
  unfolding children_at located_of
  roots g = located-count g (Position.start w) (λ around. Forest.none)

  pub node-children : {r a : ℕ} {c : Expression} {z : Position} → Good Sort.row w → At w Where.here (Expression.node r a c) z
      → count (children_at (located_of w) (path_to (spot z))) ≡ tops c
  unfolding Reaches Here
  node-children {r} {a} {c} {z} g h =
      let k = reaches g h in
      ap count (children-spotted k.1.1) ∙ located-count k.0 (Position.node_row r a c z) k.1.0

  part_count : {r a : ℕ} {b c : Expression} {z : Position} → Good Sort.spine (Expression.part r a b c) → Threaded w (Expression.part r a b c) z
      → count (children_at (located_of w) (path_to (spot z))) ≡ tops b + 1 + tops c
  unfolding located
  part_count {r} {a} {b} {c} {z} (Good.part g h) k =
      let p = located-count g (Position.part_row Side.left r a b c z) k.hole in
      let q = located-count h (Position.part_row Side.right r a b c z) k.hole in
      let one = k.one z in
      ap count (children-spotted k.spotted) ∙ simp count-append (omega arith)

  pub part-children : {r a : ℕ} {b c : Expression} {z : Position} → Good Sort.row w → At w Where.here (Expression.part r a b c) z
      → count (children_at (located_of w) (path_to (spot z))) ≡ tops b + 1 + tops c
  unfolding Reaches Here
  part-children g h = part_count (reaches g h).good (reaches g h)

-- past the last child is no node
later-past : {A : Type 0} (i : ℕ) (g : Forest A) → count g ≤ i → top (later i g) ≡ None
unfolding later count top
later-past i Forest.none l = ap top (later-none i)
later-past zero (Forest.tree a c f) l = absurd (let k : ⊥ = omega arith in k)
later-past (suc i) (Forest.tree a c f) l = later-past i f (omega arith)

pub past-children : {A : Type 0} (g : Forest A) (p : Path) (i : ℕ) → count (children_at g p) ≤ i → label_at g (suc i ∷ p) ≡ None
unfolding label_at
past-children g p i l = later-past i (children_at g p) l
