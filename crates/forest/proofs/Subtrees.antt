-- The subtree at a node is fixed by the node's expression and position: a node's is its own value, and a part's is its value with what
-- stands in its hole, which the crumbs of its spine say. By induction over the sorts, a spine's hole being what its last part's crumbs
-- say. Assumes nothing.
use Prim.Native.Nat.{ℕ}
use native.Mathlib.Omega.{arith}
use mathlib.Core.Path.{◌≡◌, refl, sym, ◌∙◌, ap, ap₂, subst}
use Rattle.std.specs.Prelude.{Some}
use Rattle.forest.specs.Expression.{Expression}
use Rattle.forest.specs.Algebra.{Hedge, ◌·◌, ◌⟨◌⟩, value}
use Rattle.forest.specs.Forest.{Forest, append, trees}
use Rattle.forest.specs.Relabel.{relabel}
use Rattle.forest.specs.Place.{Side, is_empty}
use Rattle.forest.specs.Reference.{Path, top, node_at, label_at}
use Rattle.forest.specs.Compare.{first_tree, subtree_at}
use Rattle.forest.specs.Good.{Sort, Good}
use Rattle.forest.specs.Position.{Position, Located, label_of, located, located_of, last_part}
use Rattle.forest.proofs.Append.{relabel-append}
use Rattle.forest.proofs.Cases.{by_bool}
use Rattle.forest.proofs.Values.{concat-ε, ⟨⟩-assoc}
use Rattle.forest.proofs.Forget.{trees-concat, trees-⟨ε⟩, empty-value}
use Rattle.forest.proofs.Counts.{node-trees}
use Rattle.forest.proofs.Spelled.{part-around}
use Rattle.forest.proofs.Each.{EachTree, every_append, every-node_at}
use Rattle.forest.proofs.Relabel.{node_at-relabel}
use Rattle.forest.proofs.Rows.{located-right-only, located-left-only, located-pair}

-- what stands in the hole of the part at z
unfoldable pub filling : Position → Hedge
filling (Position.start e) = Hedge.ε
filling (Position.node_row r a c z) = Hedge.ε
filling (Position.part_row s r a b c z) = Hedge.ε
filling (Position.pair_side s r b c z) = Hedge.ε
filling (Position.node_spine r a c z) = Hedge.ε
filling (Position.fill_spine r b c z) = value c
filling (Position.join_side Side.left r b c z) = value c ⟨ filling z ⟩
filling (Position.join_side Side.right r b c z) = filling z

-- what the crumbs of a spine put into its hole is well sorted
abbrev pub Crumbs : Position → Type 0
Crumbs (Position.start e) = Unit {0}
Crumbs (Position.node_row r a c z) = Unit {0}
Crumbs (Position.part_row s r a b c z) = Unit {0}
Crumbs (Position.pair_side s r b c z) = Unit {0}
Crumbs (Position.node_spine r a c z) = Unit {0}
Crumbs (Position.fill_spine r b c z) = Good Sort.tree c
Crumbs (Position.join_side s r b c z) = Good Sort.spine c × Crumbs z

-- a node's expression: a node or a part
pub data Stander : Expression → Type 0 where
  node : {r a : ℕ} {c : Expression} → Good Sort.tree (Expression.node r a c) → Stander (Expression.node r a c)
  part : {r a : ℕ} {b c : Expression} → Good Sort.spine (Expression.part r a b c) → Stander (Expression.part r a b c)

abbrev label : Located → ℕ
label x = label_of x.0

-- g is the subtree that a node's expression and position say
pub record Subtree (x : Located) (g : Forest ℕ) : Type 0 where
  pub stands : Stander x.0
  pub crumbs : Crumbs x.1
  pub whole : g ≡ trees (value x.0 ⟨ filling x.1 ⟩)

-- the tree over a node's children is that subtree
abbrev Over : Located → Forest Located → Type 0
Over x c = Subtree x (relabel label (Forest.tree x c Forest.none))

-- a forest whose nodes have such subtrees, and which is worth h
record Worth (g : Forest Located) (h : Hedge) : Type 0 where
  nodes : EachTree Over g
  forgets : relabel label g ≡ trees h

-- what is shown of an expression, by its sort
abbrev Whole : Sort → Expression → Type 0
Whole Sort.row e = (z : Position) (hole : Position → Forest Located) → Worth (located e z hole) (value e)
Whole Sort.tree e = (z : Position) (hole : Position → Forest Located) → Worth (located e z hole) (value e)
Whole Sort.spine e = (z : Position) (hole : Position → Forest Located) → Crumbs z → Worth (hole (last_part e z).1) (filling z)
    → Worth (located e z hole) (value e ⟨ filling z ⟩)

worth-append : {f g : Forest Located} {h k : Hedge} → Worth f h → Worth g k → (relabel label (append f g) ≡ append (trees h) (trees k)) × EachTree Over (append f g)
worth-append {f} {g} x y = (relabel-append label f g ∙ ap₂ append x.forgets y.forgets, every_append Over f g x.nodes y.nodes)

whole_pair : (r : ℕ) (b c : Expression) → Whole Sort.row b → Whole Sort.row c → Whole Sort.row (Expression.pair r b c)
unfolding value ◌·◌
whole_pair r b c x y z hole =
    by_bool (is_empty b)
    (λ u. rw (located-right-only r b c z hole u)
    (record { nodes = (y z hole).nodes; forgets = (y z hole).forgets ∙ ap trees (ap (λ (v : Hedge). v · value c) (sym (empty-value b u))) }))
    (λ u. by_bool (is_empty c)
    (λ v. rw (located-left-only r b c z hole u v)
    (record {
      nodes = (x z hole).nodes;
      forgets = (x z hole).forgets ∙ ap trees (sym (concat-ε (value b)) ∙ ap (λ (k : Hedge). value b · k) (sym (empty-value c v)));
    }))
    (λ v. rw (located-pair r b c z hole u v)
    (let a = worth-append (x (Position.pair_side Side.left r b c z) hole) (y (Position.pair_side Side.right r b c z) hole) in
    record { nodes = a.1; forgets = a.0 ∙ sym (trees-concat (value b) (value c)) })))

whole-node : (r a : ℕ) (c : Expression) → Good Sort.row c → Whole Sort.row c → Whole Sort.tree (Expression.node r a c)
unfolding located relabel label_of filling
whole-node r a c g x z hole =
    let y : Worth (located c (Position.node_row r a c (Position.node_spine r a c z)) hole) (value c) =
    x (Position.node_row r a c (Position.node_spine r a c z)) hole in
    let e = ap (λ (f : Forest ℕ). Forest.tree a f Forest.none) y.forgets ∙ sym (node-trees r a c) in
    record {
      nodes = (record { stands = node (Good.node g); crumbs = tt; whole = e ∙ sym (trees-⟨ε⟩ (value (Expression.node r a c))) }, y.nodes, tt);
      forgets = e;
    }

whole-fill : (r : ℕ) (b c : Expression) → Good Sort.tree c → Whole Sort.spine b → Whole Sort.tree c → Whole Sort.tree (Expression.fill r b c)
unfolding located value filling
whole-fill r b c g x y z hole =
    x (Position.fill_spine r b c z) (λ last. located c last hole) g (y (last_part b (Position.fill_spine r b c z)).1 hole)

whole_part : (r a : ℕ) (b c : Expression) → Good Sort.row b → Good Sort.row c → Whole Sort.row b → Whole Sort.row c → Whole Sort.spine (Expression.part r a b c)
unfolding located relabel label_of last_part
whole_part r a b c g h x y z hole k w =
    let l = x (Position.part_row Side.left r a b c z) hole in
    let m = y (Position.part_row Side.right r a b c z) hole in
    let right = worth-append w m in
    let e =
    ap (λ (f : Forest ℕ). Forest.tree a f Forest.none)
    (relabel-append label (located b (Position.part_row Side.left r a b c z) hole) (append (hole z) (located c (Position.part_row Side.right r a b c z) hole))
    ∙ ap₂ append l.forgets right.0)
    ∙ sym (part-around r a b c g h (filling z)) in
    record {
      nodes = (
        record { stands = part (Good.part g h); crumbs = k; whole = e },
        every_append Over (located b (Position.part_row Side.left r a b c z) hole)
            (append (hole z) (located c (Position.part_row Side.right r a b c z) hole)) l.nodes right.1,
        tt,
      );
      forgets = e;
    }

whole_join : (r : ℕ) (b c : Expression) → Good Sort.spine c → Whole Sort.spine b → Whole Sort.spine c → Whole Sort.spine (Expression.join r b c)
unfolding located last_part filling value
whole_join r b c g x y z hole k w =
    rw (⟨⟩-assoc (value b) (value c) (filling z))
    (x (Position.join_side Side.left r b c z) (λ around. located c (Position.join_side Side.right r b c z) hole) (g, k)
    (y (Position.join_side Side.right r b c z) hole (g, k) w))

worth : {s : Sort} {e : Expression} → Good s e → Whole s e
unfolding located relabel trees value
worth Good.empty = λ z hole. record { nodes = tt; forgets = refl }
worth (Good.pair {r} {b = b} {c = c} g h) = whole_pair r b c (worth g) (worth h)
worth (Good.grown g) = worth g
worth (Good.node {r} {a} {c} g) = whole-node r a c g (worth g)
worth (Good.fill {r} {b = b} {c = c} g h) = whole-fill r b c h (worth g) (worth h)
worth (Good.part {r} {a} {b} {c} g h) = whole_part r a b c g h (worth g) (worth h)
worth (Good.join {r} {b = b} {c = c} g h) = whole_join r b c h (worth g) (worth h)

-- the located forest has the value's labels
pub located-forgets : {w : Expression} → Good Sort.row w → relabel label (located_of w) ≡ trees (value w)
unfolding located_of
located-forgets {w} g = (worth g (Position.start w) (λ around. Forest.none)).forgets

first-relabel : (g : Forest Located) → first_tree (relabel label g) ≡ relabel label (first_tree g)
unfolding first_tree relabel
first-relabel Forest.none = refl
first-relabel (Forest.tree a c f) = refl

-- the first tree of a forest
first-subtree : (g : Forest Located) (x : Located) → EachTree Over g → top g ≡ Some x → Subtree x (relabel label (first_tree g))
unfolding top first_tree
first-subtree Forest.none x h e = absurd (let z : ◌≡◌ {A = ℕ} 0 1 = cc in omega arith)
first-subtree (Forest.tree y c f) x h e =
    let q : y ≡ x = cc in
    subst (λ (v : Located). Subtree v (relabel label (Forest.tree y c Forest.none))) q h.0

-- the subtree at a path
pub node-subtree : {w : Expression} → Good Sort.row w → {e : Expression} {z : Position} (p : Path) → label_at (located_of w) p ≡ Some (e, z)
    → Subtree (e, z) (subtree_at (trees (value w)) p)
unfolding label_at subtree_at located_of
node-subtree {w} g {e} {z} p q =
    rw (← located-forgets g, node_at-relabel label (located_of w) p, first-relabel (node_at (located_of w) p))
    (first-subtree (node_at (located_of w) p) (e, z) (every-node_at Over (located_of w) p (worth g (Position.start w) (λ around. Forest.none)).nodes) q)
