-- The reason read off the forest is 'moves' exactly where the walker's answer is a node: each letter's reason tests the end or the
-- children that the path tried runs into. Assumes nothing.
use Prim.Native.Nat.{ℕ, zero, suc}
use mathlib.Core.Path.{◌≡◌, refl, sym, ◌∙◌, ap}
use mathlib.Core.Logic.{◌↔◌, ◌≢◌}
use mathlib.Core.Bool.{Bool, true, false, cond, not, ◌&&◌, true≢false}
use mathlib.Core.List.{[], ◌∷◌}
use Rattle.std.specs.Prelude.{Option, Some, None}
use Rattle.std.proofs.lemmas.Option.{none-some}
use lib.Dec.{leb, leb-zero, leb-suc-zero, leb-suc-suc}
use Rattle.forest.specs.Forest.{Forest, count}
use Rattle.forest.specs.Place.{Side}
use Rattle.forest.specs.Position.{or_else, node, Named}
use Rattle.forest.specs.Letter.{Letter, is_root}
use Rattle.forest.specs.Reference.{Path, later, from, below, top, children_at, label_at, shifted, tried, is_above, answer}
use Rattle.forest.specs.Ends.{has_none, at_end}
use Rattle.reasons.specs.declared.Reason.{Reason}
use Rattle.reasons.specs.Reason.{end_reason, reason_at, reason_above, reason_of}
use Rattle.forest.proofs.Neighbours.{edge, top-end, answer-edge}
use Rattle.forest.proofs.Reach.{earlier, parent-named}

unfoldable pub is_moves : Reason → Bool
is_moves Reason.Moves = true
is_moves Reason.Above = false
is_moves Reason.NoTrees = false
is_moves Reason.NoChildren = false
is_moves Reason.LastSibling = false
is_moves Reason.FirstSibling = false
is_moves Reason.Root = false

-- a reason and an answer that say the same
pub data Agrees (A : Type 0) : Reason → Option A → Type 0 where
  leads : {r : Reason} {x : Option A} {a : A} → r ≡ Reason.Moves → x ≡ Some a → Agrees A r x
  stops : {r : Reason} {x : Option A} → is_moves r ≡ false → x ≡ None → Agrees A r x

module _ {A : Type 0} where
  agrees-moves : {r : Reason} {x : Option A} → Agrees A r x → (r ≡ Reason.Moves) ↔ (x ≢ None)
  unfolding is_moves
  agrees-moves (leads p q) = (λ m e. none-some _ (sym e ∙ q), λ m. p)
  agrees-moves (stops p q) = (λ m e. true≢false (sym (ap is_moves m) ∙ p), λ m. absurd (m q))

  -- an empty forest has no node
  from-none : (i : ℕ) → from {A = A} i Forest.none ≡ Forest.none
  unfolding from
  from-none zero = refl
  from-none (suc zero) = refl
  from-none (suc (suc i)) = refl

  children_at-none : (p : Path) → children_at {A = A} Forest.none p ≡ Forest.none
  unfolding children_at
  children_at-none [] = refl
  children_at-none (i ∷ p) = ap (λ g. below (from i g)) (children_at-none p) ∙ ap below (from-none i)

  pub label_at-none : (p : Path) → label_at {A = A} Forest.none p ≡ None
  unfolding label_at
  label_at-none [] = refl
  label_at-none (i ∷ p) = ap (λ g. top (from i g)) (children_at-none p) ∙ ap top (from-none i)

  cond-none : (b : Bool) {x : Option A} → x ≡ None → cond b None x ≡ None
  cond-none true e = refl
  cond-none false e = e

  -- the first or last tree, if there is one
  edge-some : (s : Side) (a : A) (c f : Forest A) → (b : A) × (edge s (Forest.tree a c f) ≡ Some b)
  unfolding edge or_else
  edge-some Side.left a c f = (a, refl)
  edge-some Side.right a c f = go (edge Side.right f)
    where
      go : (x : Option A) → (b : A) × (or_else x (Some a) ≡ Some b)
      go None = (a, refl)
      go (Some b) = (b, refl)

  -- the end on the right
  agrees-later : (n : ℕ) (g : Forest A) → Agrees A (cond (leb (count g) n) Reason.LastSibling Reason.Moves) (top (later n g))
  unfolding is_moves count top later
  agrees-later zero Forest.none = stops refl refl
  agrees-later (suc n) Forest.none = rw (leb-zero (suc n)) (stops refl refl)
  agrees-later zero (Forest.tree a c f) = rw (leb-suc-zero (count f)) (leads refl refl)
  agrees-later (suc n) (Forest.tree a c f) = rw (leb-suc-suc (count f) n) (agrees-later n f)

  agrees-end : (s : Side) (g : Forest A) → Agrees A (cond (has_none g) Reason.NoChildren Reason.Moves) (edge s g)
  unfolding is_moves has_none edge
  agrees-end s Forest.none = stops refl refl
  agrees-end s (Forest.tree a c f) = leads refl (edge-some s a c f).1

  -- the end on a side
  agrees-sibling : {a : A} (s : Side) (i : ℕ) (g : Forest A) → top (later i g) ≡ Some a
      → Agrees A (cond (at_end s g (suc i)) (end_reason s) Reason.Moves) (top (from (shifted s (suc i)) g))
  unfolding is_moves end_reason at_end from shifted top
  agrees-sibling Side.left zero g e = stops refl refl
  agrees-sibling Side.left (suc i) g e = rw (leb-suc-suc (suc i) 0, leb-suc-zero i) (leads refl (earlier i g e).1)
  agrees-sibling Side.right i g e = agrees-later (suc i) g

  agrees-parent : {a : A} (g : Forest A) (i : ℕ) (p : Path) → label_at g (i ∷ p) ≡ Some a → Agrees A (reason_at g Letter.parent i p) (label_at g p)
  unfolding is_moves reason_at label_at
  agrees-parent g i [] e = stops refl refl
  agrees-parent g i (j ∷ p) e = go (parent-named i (j ∷ p) e)
    where
      go : Named g (j ∷ p) → Agrees A (reason_at g Letter.parent i (j ∷ p)) (label_at g (j ∷ p))
      go (node d) = leads refl d

  agrees-root : (s : Side) (a : A) (c f : Forest A) (p : Path) → Agrees A Reason.Moves (answer (Forest.tree a c f) (Letter.root s) p)
  agrees-root s a c f p = leads refl (answer-edge (Forest.tree a c f) s p ∙ (edge-some s a c f).1)

  agrees-above : (x : A) (d f : Forest A) (c : Letter) → Agrees A (reason_above c) (answer (Forest.tree x d f) c [])
  unfolding is_moves reason_above answer
  agrees-above x d f (Letter.root s) = agrees-root s x d f []
  agrees-above x d f (Letter.child s) = stops refl refl
  agrees-above x d f (Letter.sibling s) = stops refl refl
  agrees-above x d f Letter.parent = stops refl refl
  agrees-above x d f Letter.stay = stops refl refl

  agrees-node : {b : A} (x : A) (d f : Forest A) (c : Letter) (i : ℕ) (p : Path) → label_at (Forest.tree x d f) (suc i ∷ p) ≡ Some b
      → Agrees A (reason_at (Forest.tree x d f) c (suc i) p) (answer (Forest.tree x d f) c (suc i ∷ p))
  unfolding reason_at answer tried
  agrees-node x d f (Letter.root s) i p e = agrees-root s x d f (suc i ∷ p)
  agrees-node x d f (Letter.child s) i p e =
      rw (top-end s (children_at (Forest.tree x d f) (suc i ∷ p))) (agrees-end s (children_at (Forest.tree x d f) (suc i ∷ p)))
  agrees-node x d f (Letter.sibling s) i p e = agrees-sibling s i (children_at (Forest.tree x d f) p) e
  agrees-node x d f Letter.parent i p e = agrees-parent (Forest.tree x d f) (suc i) p e
  agrees-node x d f Letter.stay i p e = leads refl e

  pub agrees : (g : Forest A) (c : Letter) (p : Path) → Named g p → Agrees A (reason_of g c p) (answer g c p)
  unfolding is_moves reason_of answer label_at
  agrees Forest.none c p n = stops refl (cond-none (is_above p && not (is_root c)) (label_at-none (tried Forest.none c p)))
  agrees (Forest.tree x d f) c [] n = agrees-above x d f c
  agrees (Forest.tree x d f) c (zero ∷ p) (node e) = absurd (none-some _ e)
  agrees (Forest.tree x d f) c (suc i ∷ p) (node e) = agrees-node x d f c i p e

  -- a letter's reason is that it moves exactly if its answer is a node
  pub moves-answer : (g : Forest A) (c : Letter) (p : Path) → Named g p → (reason_of g c p ≡ Reason.Moves) ↔ (answer g c p ≢ None)
  moves-answer g c p n = agrees-moves (agrees g c p n)
