-- At every node and above the forest a reason is given exactly where its own sentence holds. One holds, that of the reason given: where a test
-- of the definition says that siblings or children end, the sentence says so of the path. And where a sentence holds, the definition computes
-- to its reason. Assumes nothing.
use Prim.Native.Nat.{ℕ, zero, suc, ◌≤◌}
use native.Mathlib.Omega.{arith}
use mathlib.Core.Path.{◌≡◌, refl, sym, ap, subst, ◌∙◌}
use mathlib.Core.Logic.{◌↔◌, ◌≢◌}
use mathlib.Core.Bool.{Bool, true, false, cond, true≢false, false≢true}
use mathlib.Core.List.{[], ◌∷◌}
use Rattle.std.specs.Prelude.{None, Some}
use Rattle.std.proofs.lemmas.Option.{none-some}
use borrow.Author.Tests.{leb-true, le-leb}
use Rattle.forest.specs.Forest.{Forest, count}
use Rattle.forest.specs.Place.{Side}
use Rattle.forest.specs.Letter.{Letter, is_root}
use Rattle.forest.specs.Position.{Named}
use Rattle.forest.specs.Reference.{Path, later, from, top, children_at, label_at}
use Rattle.forest.specs.Ends.{has_none, at_end}
use Rattle.reasons.specs.declared.Reason.{Reason}
use Rattle.reasons.specs.Reason.{end_reason, reason_at, reason_above, reason_of}
use Rattle.reasons.specs.Says.{Childless, OnLast, OnFirst, OnRoot, Says}
use Rattle.reasons.proofs.Reasons.{label_at-none, moves-answer}

-- a tree is numbered up to the number of trees
later-count : {A : Type 0} {a : A} (i : ℕ) (g : Forest A) → top (later i g) ≡ Some a → suc i ≤ count g
unfolding top later count
later-count zero Forest.none e = absurd (none-some _ e)
later-count (suc i) Forest.none e = absurd (none-some _ e)
later-count zero (Forest.tree a c f) e = omega arith
later-count (suc i) (Forest.tree a c f) e = let h = later-count i f e in omega arith

none_has : {A : Type 0} (g : Forest A) → has_none g ≡ true → g ≡ Forest.none
unfolding has_none
none_has Forest.none e = refl
none_has (Forest.tree a c f) e = absurd (false≢true e)

tree-some : {A : Type 0} {a : A} {c f : Forest A} → Forest.tree a c f ≡ Forest.none → ⊥
unfolding has_none
tree-some e = true≢false (sym (ap has_none e))

module _ {A : Type 0} where
  -- where the definition gives that it moves, it moves
  given-moves : (g : Forest A) (c : Letter) (p : Path) → Named g p → reason_of g c p ≡ Reason.Moves → Says g c p Reason.Moves
  unfolding Says
  given-moves g c p N e = (moves-answer g c p N).0 e

  -- a test of the definition, and what its two answers say
  tested : (g : Forest A) (c : Letter) (p : Path) (t : Bool) (w : Reason) → Named g p
      → reason_of g c p ≡ cond t w Reason.Moves → (t ≡ true → Says g c p w) → Says g c p (cond t w Reason.Moves)
  tested g c p true w N e h = h refl
  tested g c p false w N e h = given-moves g c p N e

  -- the last, or the first, of the siblings
  ended : (g : Forest A) (s : Side) (i : ℕ) (p : Path) {a : A} → label_at g (suc i ∷ p) ≡ Some a
      → at_end s (children_at g p) (suc i) ≡ true → Says g (Letter.sibling s) (suc i ∷ p) (end_reason s)
  unfolding Says at_end end_reason label_at from
  ended g Side.left i p n e =
      let first : suc i ≡ 1 = let l = leb-true (suc i) 1 e in omega arith in
      record { parent = p; pressed = refl; stands = ap (λ (j : ℕ). j ∷ p) first }
  ended g Side.right i p n e =
      let least = leb-true (count (children_at g p)) (suc i) e in
      let most = later-count i (children_at g p) n in
      let last : suc i ≡ count (children_at g p) = omega arith in
      record { parent = p; pressed = refl; stands = ap (λ (j : ℕ). j ∷ p) last }

  -- the reason given says what holds
  holds-above : (a : A) (d f : Forest A) (c : Letter) → Says (Forest.tree a d f) c [] (reason_above c)
  unfolding Says reason_above reason_of is_root
  holds-above a d f (Letter.root s) = given-moves (Forest.tree a d f) (Letter.root s) [] Named.above refl
  holds-above a d f (Letter.child s) = record { trees = tree-some; stands = refl; pressed = refl }
  holds-above a d f (Letter.sibling s) = record { trees = tree-some; stands = refl; pressed = refl }
  holds-above a d f Letter.parent = record { trees = tree-some; stands = refl; pressed = refl }
  holds-above a d f Letter.stay = record { trees = tree-some; stands = refl; pressed = refl }

  holds-node : (a : A) (d f : Forest A) (c : Letter) (i : ℕ) (p : Path) {b : A} → label_at (Forest.tree a d f) (suc i ∷ p) ≡ Some b
      → Says (Forest.tree a d f) c (suc i ∷ p) (reason_at (Forest.tree a d f) c (suc i) p)
  unfolding Says reason_at reason_of
  holds-node a d f (Letter.root s) i p n = given-moves (Forest.tree a d f) (Letter.root s) (suc i ∷ p) (Named.node n) refl
  holds-node a d f (Letter.child s) i p n =
      tested (Forest.tree a d f) (Letter.child s) (suc i ∷ p) (has_none (children_at (Forest.tree a d f) (suc i ∷ p))) Reason.NoChildren (Named.node n) refl
      (λ e. record { side = s; number = suc i; parent = p; pressed = refl; stands = refl; without = none_has (children_at (Forest.tree a d f) (suc i ∷ p)) e })
  holds-node a d f (Letter.sibling s) i p n =
      tested (Forest.tree a d f) (Letter.sibling s) (suc i ∷ p) (at_end s (children_at (Forest.tree a d f) p) (suc i)) (end_reason s) (Named.node n) refl
      (ended (Forest.tree a d f) s i p n)
  holds-node a d f Letter.parent i [] n = record { number = suc i; pressed = refl; stands = refl }
  holds-node a d f Letter.parent i (j ∷ p) n = given-moves (Forest.tree a d f) Letter.parent (suc i ∷ (j ∷ p)) (Named.node n) refl
  holds-node a d f Letter.stay i p n = given-moves (Forest.tree a d f) Letter.stay (suc i ∷ p) (Named.node n) refl

  holds : (g : Forest A) (c : Letter) (p : Path) → Named g p → Says g c p (reason_of g c p)
  unfolding Says reason_of label_at
  holds Forest.none c p N = refl
  holds (Forest.tree a d f) c [] N = holds-above a d f c
  holds (Forest.tree a d f) c (zero ∷ p) (Named.node n) = absurd (none-some _ n)
  holds (Forest.tree a d f) c (suc i ∷ p) (Named.node n) = holds-node a d f c i p n

  -- and where a sentence holds, its reason is given
  above-given : (g : Forest A) (c : Letter) → g ≢ Forest.none → is_root c ≡ false → reason_of g c [] ≡ Reason.Above
  unfolding reason_of is_root
  above-given Forest.none c n e = absurd (n refl)
  above-given (Forest.tree a d f) (Letter.root s) n e = absurd (true≢false e)
  above-given (Forest.tree a d f) (Letter.child s) n e = refl
  above-given (Forest.tree a d f) (Letter.sibling s) n e = refl
  above-given (Forest.tree a d f) Letter.parent n e = refl
  above-given (Forest.tree a d f) Letter.stay n e = refl

  -- at a node the forest has trees
  node-given : (g : Forest A) (c : Letter) (i : ℕ) (p : Path) → Named g (i ∷ p) → reason_of g c (i ∷ p) ≡ reason_at g c i p
  unfolding reason_of
  node-given Forest.none c i p (Named.node n) = absurd (none-some _ (sym (label_at-none (i ∷ p)) ∙ n))
  node-given (Forest.tree a d f) c i p N = refl

  empty-given : (g : Forest A) (c : Letter) (p : Path) → g ≡ Forest.none → reason_of g c p ≡ Reason.NoTrees
  unfolding reason_of has_none
  empty-given g c p e = rw e

  child-given : (g : Forest A) (c : Letter) (p : Path) → Named g p → Childless g c p → reason_of g c p ≡ Reason.NoChildren
  unfolding reason_at has_none
  child-given g c p N h =
      let at : Named g (h.number ∷ h.parent) = subst (Named g) h.stands N in
      let without : children_at g (h.number ∷ h.parent) ≡ Forest.none = ap (children_at g) (sym h.stands) ∙ h.without in
      rw (h.pressed, h.stands) (node-given g (Letter.child h.side) h.number h.parent at ∙ rw without)

  last-given : (g : Forest A) (c : Letter) (p : Path) → Named g p → OnLast g c p → reason_of g c p ≡ Reason.LastSibling
  unfolding reason_at at_end end_reason
  last-given g c p N h =
      let last = count (children_at g h.parent) in
      rw (h.pressed, h.stands)
      (node-given g (Letter.sibling Side.right) last h.parent (subst (Named g) h.stands N) ∙ rw (le-leb last last (omega arith)))

  first-given : (g : Forest A) (c : Letter) (p : Path) → Named g p → OnFirst c p → reason_of g c p ≡ Reason.FirstSibling
  unfolding reason_at at_end end_reason
  first-given g c p N h =
      rw (h.pressed, h.stands) (node-given g (Letter.sibling Side.left) 1 h.parent (subst (Named g) h.stands N))

  root-given : (g : Forest A) (c : Letter) (p : Path) → Named g p → OnRoot c p → reason_of g c p ≡ Reason.Root
  unfolding reason_at
  root-given g c p N h = rw (h.pressed, h.stands) (node-given g Letter.parent h.number [] (subst (Named g) h.stands N))

  given : (g : Forest A) (c : Letter) (p : Path) → Named g p → (w : Reason) → Says g c p w → reason_of g c p ≡ w
  unfolding Says
  given g c p N Reason.Moves h = (moves-answer g c p N).1 h
  given g c p N Reason.Above h = ap (reason_of g c) h.stands ∙ above-given g c h.trees h.pressed
  given g c p N Reason.NoTrees h = empty-given g c p h
  given g c p N Reason.NoChildren h = child-given g c p N h
  given g c p N Reason.LastSibling h = last-given g c p N h
  given g c p N Reason.FirstSibling h = first-given g c p N h
  given g c p N Reason.Root h = root-given g c p N h

  -- each reason is given exactly where its sentence holds
  pub exactly : (g : Forest A) (c : Letter) (p : Path) → Named g p → (w : Reason) → (reason_of g c p ≡ w) ↔ Says g c p w
  exactly g c p N w = (λ e. subst (Says g c p) e (holds g c p N), given g c p N w)
