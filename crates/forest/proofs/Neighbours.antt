-- Forests whose nodes know their neighbours. Beside a list of trees stand a parent, what is before the first tree and what is
-- after the last; two such lists, each knowing the other's edge, make one. So a walk along a path meets at each step
-- what the label says. Assumes nothing.
use Prim.Native.Nat.{ℕ, zero, suc}
use mathlib.Core.Path.{◌≡◌, refl, sym, ◌∙◌, ap}
use mathlib.Core.List.{[], ◌∷◌}
use Rattle.std.specs.Prelude.{Option, Some, None}
use Rattle.std.proofs.lemmas.Option.{none-some, same_Some}
use Rattle.forest.specs.Forest.{Forest, append}
use Rattle.forest.specs.Place.{Side}
use Rattle.forest.specs.Sides.{pick}
use Rattle.forest.specs.Position.{or_else}
use Rattle.forest.specs.Letter.{Letter}
use Rattle.forest.specs.Reference.{Path, later, from, below, top, children_at, label_at, end_of, tried, answer}

pub or-none : {A : Type 0} (x : Option A) → or_else x None ≡ x
unfolding or_else
or-none None = refl
or-none (Some a) = refl

pub or-or : {A : Type 0} (x y z : Option A) → or_else (or_else x y) z ≡ or_else x (or_else y z)
unfolding or_else
or-or None y z = refl
or-or (Some a) y z = refl

-- the label of the first (left) or last (right) tree
unfoldable pub edge : {A : Type 0} → Side → Forest A → Option A
unfolding or_else
edge s Forest.none = None
edge Side.left (Forest.tree a c f) = Some a
edge Side.right (Forest.tree a c f) = or_else (edge Side.right f) (Some a)

pub edge-append : {A : Type 0} (s : Side) (f g : Forest A) → edge s (append f g) ≡ or_else (pick s (edge s f) (edge s g)) (pick s (edge s g) (edge s f))
unfolding edge append or_else pick
edge-append Side.left Forest.none g = refl
edge-append Side.left (Forest.tree a c f) g = refl
edge-append Side.right Forest.none g = sym (or-none (edge Side.right g))
edge-append Side.right (Forest.tree a c f) g = ap (λ x. or_else x (Some a)) (edge-append Side.right f g) ∙ or-or (edge Side.right g) (edge Side.right f) (Some a)

-- what a label says of its node's parent, its siblings, and its first and last child
pub record Neighbours (A : Type 0) : Type 0 where
  pub up : A → Option A
  pub next : Side → A → Option A
  pub down : Side → A → Option A

-- the trees' parent is u, before them stands l, after them r; each node below knows its neighbours
pub data Knows (A : Type 0) (N : Neighbours A) : Option A → Option A → Option A → Forest A → Type 0 where
  none : {u l r : Option A} → Knows A N u l r Forest.none
  tree : {u l r : Option A} {a : A} {c f : Forest A} → N.up a ≡ u → N.next Side.left a ≡ l → N.next Side.right a ≡ or_else (edge Side.left f) r → ((s : Side) → N.down s a ≡ edge s c) → Knows A N (Some a) None None c → Knows A N u (Some a) r f → Knows A N u l r (Forest.tree a c f)

module _ {A : Type 0} {N : Neighbours A} where
  -- a list of trees before another: each is beside the other's edge
  knows-append-as : {u : Option A} (l : Option A) {r : Option A} {f g : Forest A} {v : Option A} → Knows A N u l v f → v ≡ or_else (edge Side.left g) r → Knows A N u (or_else (edge Side.right f) l) r g → Knows A N u l r (append f g)
  unfolding edge append or_else pick
  knows-append-as l none e k = k
  knows-append-as l {r = r} {g = g} (tree {a = a} {f = f} p q n d b h) e k =
      tree p q (n ∙ ap (or_else (edge Side.left f)) e ∙ sym (ap (λ x. or_else x r) (edge-append Side.left f g) ∙ or-or (edge Side.left f) (edge Side.left g) r)) d b (knows-append-as (Some a) h e (rw or-or at k))

  pub knows-append : {u l r : Option A} {f g : Forest A} → Knows A N u l (or_else (edge Side.left g) r) f → Knows A N u (or_else (edge Side.right f) l) r g → Knows A N u l r (append f g)
  knows-append {l = l} h k = knows-append-as l h refl k

  -- one tree between two lists
  pub knows-around : {u l r : Option A} {x : A} {f h g : Forest A} → ((s : Side) → edge s h ≡ Some x) → Knows A N u l (Some x) f → Knows A N u (or_else (edge Side.right f) l) (or_else (edge Side.left g) r) h → Knows A N u (Some x) r g → Knows A N u l r (append f (append h g))
  unfolding or_else pick
  knows-around {h = h} {g = g} e i j k =
      knows-append (rw (edge-append Side.left h g, e Side.left) i) (knows-append j (rw (e Side.right) k))

pub edge-around : {A : Type 0} {x : A} (s : Side) (f h g : Forest A) → ((t : Side) → edge t h ≡ Some x) → edge s (append f (append h g)) ≡ or_else (pick s (edge s f) (edge s g)) (Some x)
unfolding or_else pick
edge-around Side.left f h g e = rw (edge-append Side.left f (append h g), edge-append Side.left h g, e Side.left)
edge-around Side.right f h g e = rw (edge-append Side.right f (append h g), edge-append Side.right h g, e Side.right, or-or)

-- what stands before the trees that are left when i are taken away
before : {A : Type 0} → ℕ → Option A → Forest A → Option A
unfolding top later
before zero l g = l
before (suc i) l g = top (later i g)

before-suc : {A : Type 0} (i : ℕ) (a : A) (c f : Forest A) → before i (Some a) f ≡ before (suc i) None (Forest.tree a c f)
unfolding before
before-suc zero a c f = refl
before-suc (suc i) a c f = refl

before-from : {A : Type 0} (i : ℕ) (g : Forest A) → before i None g ≡ top (from i g)
unfolding before top from
before-from zero g = refl
before-from (suc i) g = refl

pub later-one : {A : Type 0} (i : ℕ) (g : Forest A) → later 1 (later i g) ≡ later (suc i) g
unfolding later
later-one zero g = refl
later-one (suc i) Forest.none = refl
later-one (suc i) (Forest.tree a c f) = later-one i f

-- the first or last tree is the one whose number is the end's
pub top-end : {A : Type 0} (s : Side) (g : Forest A) → top (from (end_of s g) g) ≡ edge s g
unfolding top from end_of edge or_else
top-end Side.left Forest.none = refl
top-end Side.left (Forest.tree a c f) = refl
top-end Side.right Forest.none = refl
top-end Side.right (Forest.tree a c Forest.none) = refl
top-end Side.right (Forest.tree a c (Forest.tree b d f)) = top-end Side.right (Forest.tree b d f) ∙ sym (or-or (edge Side.right f) (Some b) (Some a))

-- the first of a list of trees that know their neighbours
record Stands (A : Type 0) (N : Neighbours A) (u l r : Option A) (a : A) (g : Forest A) : Type 0 where
  parent : N.up a ≡ u
  left : N.next Side.left a ≡ l
  right : N.next Side.right a ≡ or_else (top (later 1 g)) r
  child : (s : Side) → N.down s a ≡ edge s (below g)

top-edge : {A : Type 0} (g : Forest A) → edge Side.left g ≡ top g
unfolding edge top
top-edge Forest.none = refl
top-edge (Forest.tree a c f) = refl

-- the neighbour that a letter names
unfoldable pub neighbour : {A : Type 0} → Neighbours A → Forest A → Letter → A → Option A
unfolding edge
neighbour N g (Letter.root s) a = edge s g
neighbour N g (Letter.child s) a = N.down s a
neighbour N g (Letter.sibling s) a = N.next s a
neighbour N g Letter.parent a = N.up a
neighbour N g Letter.stay a = Some a

module _ {A : Type 0} {N : Neighbours A} where
  stands : {u l r : Option A} {a : A} {g : Forest A} → Knows A N u l r g → top g ≡ Some a → Stands A N u l r a g
  unfolding top later below
  stands none e = absurd (none-some _ e)
  stands {a = a} (tree {a = x} {f = f} p q n d b h) e =
      rw (← same_Some x a e) (record { parent = p; left = q; right = rw (← top-edge f) n; child = d })

  knows-later-as : {u r : Option A} (l : Option A) {g : Forest A} (i : ℕ) → Knows A N u l r g → Knows A N u (before i l g) r (later i g)
  unfolding before later
  knows-later-as l zero k = k
  knows-later-as l (suc i) none = none
  knows-later-as l (suc i) (tree {a = a} {c = c} {f = f} p q n d b h) = rw (← before-suc i a c f) (knows-later-as (Some a) i h)

  knows-later : {u l r : Option A} {g : Forest A} (i : ℕ) → Knows A N u l r g → Knows A N u (before i l g) r (later i g)
  knows-later {l = l} i k = knows-later-as l i k

  knows-below : {u l r : Option A} {g : Forest A} → Knows A N u l r g → Knows A N (top g) None None (below g)
  unfolding top below
  knows-below none = none
  knows-below (tree p q n d b h) = b

  knows-from : {u l r : Option A} {g : Forest A} (i : ℕ) → Knows A N u l r g → Knows A N (top (from i g)) None None (below (from i g))
  unfolding from top below
  knows-from zero k = none
  knows-from (suc i) k = knows-below (knows-later i k)

  -- the children of the node at a path know their neighbours, and the node is their parent
  pub knows-children : {g : Forest A} → Knows A N None None None g → (p : Path) → Knows A N (label_at g p) None None (children_at g p)
  unfolding label_at children_at
  knows-children k [] = k
  knows-children k (i ∷ p) = knows-from i (knows-children k p)

  stands_at : {g : Forest A} {a : A} → Knows A N None None None g → (i : ℕ) (p : Path) → label_at g (suc i ∷ p) ≡ Some a → Stands A N (label_at g p) (before i None (children_at g p)) None a (later i (children_at g p))
  unfolding label_at
  stands_at k i p e = stands (knows-later i (knows-children k p)) e

  tried-from : {g : Forest A} {a : A} → Knows A N None None None g → (c : Letter) (i : ℕ) (p : Path) → label_at g (suc i ∷ p) ≡ Some a → label_at g (tried g c (suc i ∷ p)) ≡ neighbour N g c a
  unfolding label_at tried neighbour
  tried-from {g} k (Letter.root s) i p e = top-end s g
  tried-from {g} k (Letter.child s) i p e = top-end s (children_at g (suc i ∷ p)) ∙ sym ((stands_at k i p e).child s)
  tried-from {g} k (Letter.sibling Side.left) i p e = sym ((stands_at k i p e).left ∙ before-from i (children_at g p))
  tried-from {g} k (Letter.sibling Side.right) i p e =
      sym ((stands_at k i p e).right ∙ or-none (top (later 1 (later i (children_at g p)))) ∙ ap top (later-one i (children_at g p)))
  tried-from {g} k Letter.parent i p e = sym (stands_at k i p e).parent
  tried-from {g} k Letter.stay i p e = e

  -- the node that the walker tries is the neighbour that its label says
  pub tried-neighbour : {g : Forest A} {a : A} → Knows A N None None None g → (c : Letter) (p : Path) → label_at g p ≡ Some a → label_at g (tried g c p) ≡ neighbour N g c a
  unfolding label_at
  tried-neighbour k c [] e = absurd (none-some _ e)
  tried-neighbour k c (zero ∷ p) e = absurd (none-some _ e)
  tried-neighbour k c (suc i ∷ p) e = tried-from k c i p e

  -- and so is its answer
  pub answer-neighbour : {g : Forest A} {a : A} → Knows A N None None None g → (c : Letter) (p : Path) → label_at g p ≡ Some a → answer g c p ≡ neighbour N g c a
  unfolding label_at answer
  answer-neighbour k c [] e = absurd (none-some _ e)
  answer-neighbour k c (i ∷ p) e = tried-neighbour k c (i ∷ p) e

-- a and z try the first and last root, from anywhere
pub answer-edge : {A : Type 0} (g : Forest A) (s : Side) (p : Path) → answer g (Letter.root s) p ≡ edge s g
unfolding answer tried
answer-edge g s [] = top-end s g
answer-edge g s (i ∷ p) = top-end s g
