-- Every node of a forest, or every node with its children, satisfies P: by recursion over the forest, so that it passes through append
-- and relabel, and holds of whatever node a path leads to. Assumes nothing.
use Prim.Native.Nat.{ℕ, zero, suc}
use mathlib.Core.Path.{◌≡◌, subst}
use mathlib.Core.List.{[], ◌∷◌}
use Rattle.std.specs.Prelude.{Option, None, Some}
use Rattle.forest.specs.Forest.{Forest, append}
use Rattle.forest.specs.Relabel.{relabel}
use Rattle.forest.specs.Reference.{Path, later, from, below, top, children_at, node_at, label_at}

-- a condition on a node and its children, of every node of a forest
abbrev pub EachTree : {A : Type 0} → (A → Forest A → Type 0) → Forest A → Type 0
EachTree P Forest.none = Unit {0}
EachTree P (Forest.tree a c f) = P a c × EachTree P c × EachTree P f

-- one on a node alone
abbrev pub Each : {A : Type 0} → (A → Type 0) → Forest A → Type 0
Each P g = EachTree (λ a c. P a) g

module _ {A : Type 0} (P : A → Forest A → Type 0) where
  pub every_append : (f g : Forest A) → EachTree P f → EachTree P g → EachTree P (append f g)
  unfolding append
  every_append Forest.none g h k = k
  every_append (Forest.tree a c f) g h k = (h.0, h.1, every_append f g h.2 k)

  -- the node at a path
  every-later : (i : ℕ) (g : Forest A) → EachTree P g → EachTree P (later i g)
  unfolding later
  every-later zero g h = h
  every-later (suc i) Forest.none h = tt
  every-later (suc i) (Forest.tree a c f) h = every-later i f h.2

  every-from : (i : ℕ) (g : Forest A) → EachTree P g → EachTree P (from i g)
  unfolding from
  every-from zero g h = tt
  every-from (suc i) g h = every-later i g h

  every-below : (g : Forest A) → EachTree P g → EachTree P (below g)
  unfolding below
  every-below Forest.none h = tt
  every-below (Forest.tree a c f) h = h.1

  pub every-children_at : (g : Forest A) (p : Path) → EachTree P g → EachTree P (children_at g p)
  unfolding children_at
  every-children_at g [] h = h
  every-children_at g (i ∷ p) h = every-below (from i (children_at g p)) (every-from i (children_at g p) (every-children_at g p h))

  pub every-node_at : (g : Forest A) (p : Path) → EachTree P g → EachTree P (node_at g p)
  unfolding node_at
  every-node_at g [] h = tt
  every-node_at g (i ∷ p) h = every-from i (children_at g p) (every-children_at g p h)

module _ {A : Type 0} (P : A → Type 0) where
  pub each_append : (f g : Forest A) → Each P f → Each P g → Each P (append f g)
  each_append f g h k = every_append (λ a c. P a) f g h k

  pub each_left : (f g : Forest A) → Each P (append f g) → Each P f
  unfolding append
  each_left Forest.none g h = tt
  each_left (Forest.tree a c f) g h = (h.0, h.1, each_left f g h.2)

  pub each_right : (f g : Forest A) → Each P (append f g) → Each P g
  unfolding append
  each_right Forest.none g h = h
  each_right (Forest.tree a c f) g h = each_right f g h.2

  -- a weaker condition
  pub each_weaken : (Q : A → Type 0) → ((a : A) → P a → Q a) → (g : Forest A) → Each P g → Each Q g
  each_weaken Q w Forest.none h = tt
  each_weaken Q w (Forest.tree a c f) h = (w a h.0, each_weaken Q w c h.1, each_weaken Q w f h.2)

  pub each-children_at : (g : Forest A) (p : Path) → Each P g → Each P (children_at g p)
  each-children_at g p h = every-children_at (λ a c. P a) g p h

  pub each-node_at : (g : Forest A) (p : Path) → Each P g → Each P (node_at g p)
  each-node_at g p h = every-node_at (λ a c. P a) g p h

  -- P of what is there, if anything is
  Here : Option A → Type 0
  Here None = Unit {0}
  Here (Some a) = P a

  each-top : (g : Forest A) → Each P g → Here (top g)
  unfolding top Here
  each-top Forest.none h = tt
  each-top (Forest.tree a c f) h = h.0

  pub each-label_at : (g : Forest A) (p : Path) (a : A) → Each P g → label_at g p ≡ Some a → P a
  unfolding label_at Here
  each-label_at g p a h q = subst Here q (each-top (node_at g p) (each-node_at g p h))

-- other labels
pub each-relabel : {A B : Type 0} (P : B → Type 0) (h : A → B) (g : Forest A) → Each (λ a. P (h a)) g → Each P (relabel h g)
unfolding relabel
each-relabel P h Forest.none k = tt
each-relabel P h (Forest.tree a c f) k = (k.0, each-relabel P h c k.1, each-relabel P h f k.2)

pub relabel-each : {A B : Type 0} (P : B → Type 0) (h : A → B) (g : Forest A) → Each P (relabel h g) → Each (λ a. P (h a)) g
unfolding relabel
relabel-each P h Forest.none k = tt
relabel-each P h (Forest.tree a c f) k = (k.0, relabel-each P h c k.1, relabel-each P h f k.2)
