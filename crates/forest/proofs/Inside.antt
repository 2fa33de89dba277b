-- Stretches: trees that stand one after the other somewhere in a forest. A side of a stretch, and what is below its first tree,
-- are stretches again, and the first tree of a stretch has a path. Assumes nothing.
use Prim.Native.Nat.{ℕ, suc}
use mathlib.Core.Path.{◌≡◌, sym, ◌∙◌, ap}
use mathlib.Core.List.{[], ◌∷◌}
use Rattle.std.specs.Prelude.{Some}
use Rattle.forest.specs.Forest.{Forest, append}
use Rattle.forest.specs.Place.{Side}
use Rattle.forest.specs.Sides.{pick}
use Rattle.forest.specs.Reference.{Path, later, from, below, top, children_at, label_at}
use Rattle.forest.proofs.Append.{append-none, append-append}
use Rattle.forest.proofs.Neighbours.{later-one}

module _ {A : Type 0} where
  -- the number of the tree after a stretch
  past : ℕ → Forest A → ℕ
  past i Forest.none = i
  past i (Forest.tree a c f) = past (suc i) f

  later-past : (i : ℕ) (f h g : Forest A) → later i g ≡ append f h → later (past i f) g ≡ h
  unfolding past append later
  later-past i Forest.none h g e = e
  later-past i (Forest.tree a c f) h g e = later-past (suc i) f h g (sym (later-one i g) ∙ ap (later 1) e)

-- the trees of f stand one after the other somewhere in g
pub record Inside (A : Type 0) (f g : Forest A) : Type 0 where
  pub path : Path
  pub number : ℕ
  pub rest : Forest A
  pub stretch : later number (children_at g path) ≡ append f rest

module _ {A : Type 0} where
  pub inside-all : (g : Forest A) → Inside A g g
  unfolding later children_at
  inside-all g = record { path = []; number = 0; rest = Forest.none; stretch = sym (append-none g) }

  pub inside-side : (s : Side) (f h : Forest A) {g : Forest A} → Inside A (append f h) g → Inside A (pick s f h) g
  unfolding pick
  inside-side Side.left f h k = record { path = k.path; number = k.number; rest = append h k.rest; stretch = k.stretch ∙ append-append f h k.rest }
  inside-side Side.right f h {g} k =
      record {
        path = k.path;
        number = past k.number f;
        rest = k.rest;
        stretch = later-past k.number f (append h k.rest) (children_at g k.path) (k.stretch ∙ append-append f h k.rest);
      }

  pub inside-below : {a : A} {c f g : Forest A} → Inside A (Forest.tree a c f) g → Inside A c g
  unfolding append children_at later from below
  inside-below {c = c} k = record { path = suc k.number ∷ k.path; number = 0; rest = Forest.none; stretch = ap below k.stretch ∙ sym (append-none c) }

  pub inside-node : {a : A} {c f g : Forest A} → Inside A (Forest.tree a c f) g → (p : Path) × (label_at g p ≡ Some a)
  unfolding append label_at
  inside-node k = (suc k.number ∷ k.path, ap top k.stretch)
