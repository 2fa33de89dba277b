-- Every node of the located forest stands at a position in the expression: by induction over the sorts, each part of the forest
-- being located at a position that the family At has. Assumes nothing.
use Prim.Native.Nat.{ℕ}
use mathlib.Core.Path.{◌≡◌, refl}
use Rattle.std.specs.Prelude.{Some}
use Rattle.forest.specs.Expression.{Expression}
use Rattle.forest.specs.Forest.{Forest, append}
use Rattle.forest.specs.Place.{Side, is_empty}
use Rattle.forest.specs.Sides.{pick}
use Rattle.forest.specs.Reference.{Path, label_at}
use Rattle.forest.specs.Good.{Sort, Good}
use Rattle.forest.specs.Position.{Position, Located, located, located_of, last_part, continues, Where, At}
use Rattle.forest.proofs.Cases.{by_bool}
use Rattle.forest.proofs.Each.{Each, each_append, each-label_at}
use Rattle.forest.proofs.Rows.{located-right-only, located-left-only, located-pair}

module _ (w : Expression) where
  -- every node of a forest stands at a position in w
  abbrev Here : Located → Type 0
  Here x = At w Where.here x.0 x.1

  abbrev Stand : Forest Located → Type 0
  Stand g = Each Here g

  -- what is shown of an expression, by its sort
  abbrev Everywhere : Sort → Expression → Type 0
  Everywhere Sort.row e = (z : Position) (hole : Position → Forest Located) → At w Where.row e z → Stand (located e z hole)
  Everywhere Sort.tree e = (z : Position) (hole : Position → Forest Located) → At w Where.tree e z → Stand (located e z hole)
  Everywhere Sort.spine e = (z : Position) (hole : Position → Forest Located) → At w Where.spine e z → Stand (hole (last_part e z).1) → Stand (located e z hole)

  pub at-tree : {e : Expression} {z : Position} → Good Sort.tree e → At w Where.row e z → At w Where.tree e z
  at-tree (Good.node g) h = At.tree_node h
  at-tree (Good.fill g k) h = At.tree_fill h

  -- the tree in a spine's hole is opened at the spine's last part
  pub at_last_lem : {e c : Expression} {z : Position} → Good Sort.spine e → At w Where.spine e z → continues z ≡ Some c → At w Where.tree c (last_part e z).1
  unfolding last_part continues pick
  at_last_lem (Good.part g h) k n = At.hole (At.part k) n
  at_last_lem (Good.join g h) k n = at_last_lem h (At.join Side.right k) n

  every-pair : (r : ℕ) (b c : Expression) → Everywhere Sort.row b → Everywhere Sort.row c → Everywhere Sort.row (Expression.pair r b c)
  unfolding pick
  every-pair r b c x y z hole k =
      by_bool (is_empty b) (λ u. rw (located-right-only r b c z hole u) (y z hole (At.only_right k u)))
      (λ u. by_bool (is_empty c) (λ v. rw (located-left-only r b c z hole u v) (x z hole (At.only_left k u v)))
      (λ v. rw (located-pair r b c z hole u v) (each_append Here (located b (Position.pair_side Side.left r b c z) hole) (located c (Position.pair_side Side.right r b c z) hole) (x (Position.pair_side Side.left r b c z) hole (At.side Side.left k u v)) (y (Position.pair_side Side.right r b c z) hole (At.side Side.right k u v)))))

  everywhere : {s : Sort} {e : Expression} → Good s e → Everywhere s e
  unfolding located last_part continues pick
  everywhere Good.empty = λ z hole k. tt
  everywhere (Good.pair {r} {b = b} {c = c} g h) = every-pair r b c (everywhere g) (everywhere h)
  everywhere (Good.grown g) = λ z hole k. everywhere g z hole (at-tree g k)
  everywhere (Good.node {r} {a} {c} g) = λ z hole k. (At.node k, everywhere g (Position.node_row r a c (Position.node_spine r a c z)) hole (At.under (At.node k)), tt)
  everywhere (Good.fill {r} {b = b} {c = c} g h) =
      λ z hole k. everywhere g (Position.fill_spine r b c z) (λ last. located c last hole) (At.fill k) (everywhere h (last_part b (Position.fill_spine r b c z)).1 hole (at_last_lem g (At.fill k) refl))
  everywhere (Good.part {r} {a} {b} {c} g h) =
      λ z hole k x. (
        At.part k,
        each_append Here (located b (Position.part_row Side.left r a b c z) hole) (append (hole z) (located c (Position.part_row Side.right r a b c z) hole))
            (everywhere g (Position.part_row Side.left r a b c z) hole (At.arm Side.left (At.part k)))
            (each_append Here (hole z) (located c (Position.part_row Side.right r a b c z) hole) x (everywhere h (Position.part_row Side.right r a b c z) hole (At.arm Side.right (At.part k)))),
        tt,
      )
  everywhere (Good.join {r} {b = b} {c = c} g h) =
      λ z hole k x. everywhere g (Position.join_side Side.left r b c z) (λ around. located c (Position.join_side Side.right r b c z) hole) (At.join Side.left k) (everywhere h (Position.join_side Side.right r b c z) hole (At.join Side.right k) x)

-- every node of the located forest stands at its position
pub node_at_lem : {w : Expression} → Good Sort.row w → {e : Expression} {z : Position} (p : Path) → label_at (located_of w) p ≡ Some (e, z) → At w Where.here e z
unfolding located_of
node_at_lem {w} g {e} {z} p d = each-label_at (Here w) (located_of w) p (e, z) (everywhere w g (Position.start w) (λ around. Forest.none) At.start) d
