-- Letters lead to every node: to its parent, then to the parent's first child, then along the siblings. Assumes nothing.
use Prim.Native.Nat.{ℕ, zero, suc}
use mathlib.Core.Path.{◌≡◌, refl, ◌∙◌, ap}
use mathlib.Core.List.{List, [], ◌∷◌, ◌++◌}
use Rattle.std.specs.Prelude.{Some}
use Rattle.std.proofs.lemmas.Option.{none-some}
use Rattle.forest.specs.Forest.{Forest}
use Rattle.forest.specs.Place.{Side}
use Rattle.forest.specs.Letter.{Letter}
use Rattle.forest.specs.Reference.{Path, later, from, below, top, children_at, label_at, tried, answer, moved, path_after}
use Rattle.forest.proofs.Steps.{moved-node, path_after-append}
use Rattle.forest.specs.Position.{above, node, Named}

-- where a tree stands, one stands before it
pub earlier : {A : Type 0} {a : A} (i : ℕ) (g : Forest A) → top (later (suc i) g) ≡ Some a → (b : A) × (top (later i g) ≡ Some b)
unfolding top later
earlier i Forest.none e = absurd (none-some _ e)
earlier zero (Forest.tree a c f) e = (a, refl)
earlier (suc i) (Forest.tree a c f) e = earlier i f e

-- what has children is a node
below_top : {A : Type 0} {a : A} (i : ℕ) (g : Forest A) → top (later i (below g)) ≡ Some a → (b : A) × (top g ≡ Some b)
unfolding top later below
below_top zero Forest.none e = absurd (none-some _ e)
below_top (suc i) Forest.none e = absurd (none-some _ e)
below_top i (Forest.tree b c f) e = (b, refl)

-- a node's parent is a node, or it is a root
pub parent-named : {A : Type 0} {g : Forest A} {a : A} (i : ℕ) (p : Path) → label_at g (i ∷ p) ≡ Some a → Named g p
unfolding label_at
parent-named i [] e = above
parent-named zero (j ∷ p) e = absurd (none-some _ e)
parent-named {g = g} (suc i) (j ∷ p) e = node (below_top i (from j (children_at g p)) e).1

-- the letter to the first tree under a path, and the letters to the tree numbered i + 1 there
to_first : Path → Letter
to_first [] = Letter.root Side.left
to_first (i ∷ p) = Letter.child Side.left

along : Letter → ℕ → List Letter
along c zero = c ∷ []
along c (suc i) = along c i ++ (Letter.sibling Side.right ∷ [])

-- the letters from above to a path's node
pub letters : Path → List Letter
letters [] = []
letters (zero ∷ p) = letters p
letters (suc i ∷ p) = letters p ++ along (to_first p) i

module _ {A : Type 0} (g : Forest A) where
  first-moved : (p : Path) {a : A} → label_at g (1 ∷ p) ≡ Some a → moved g (to_first p) p ≡ 1 ∷ p
  unfolding to_first answer tried
  first-moved [] e = moved-node g (Letter.root Side.left) [] e
  first-moved (i ∷ p) e = moved-node g (Letter.child Side.left) (i ∷ p) e

  pub sibling-before : (i : ℕ) (p : Path) {a : A} → label_at g (suc (suc i) ∷ p) ≡ Some a → (b : A) × (label_at g (suc i ∷ p) ≡ Some b)
  unfolding label_at
  sibling-before i p e = earlier i (children_at g p) e

  along-after : (i : ℕ) (p : Path) {a : A} → label_at g (suc i ∷ p) ≡ Some a → path_after g (along (to_first p) i) p ≡ suc i ∷ p
  unfolding along path_after answer tried
  along-after zero p e = first-moved p e
  along-after (suc i) p e =
      path_after-append g (along (to_first p) i) (Letter.sibling Side.right ∷ []) p
      ∙ ap (moved g (Letter.sibling Side.right)) (along-after i p (sibling-before i p e).1)
      ∙ moved-node g (Letter.sibling Side.right) (suc i ∷ p) e

  -- letters lead to every node
  pub letters-after : (p : Path) → Named g p → path_after g (letters p) [] ≡ p
  unfolding letters path_after label_at
  letters-after [] n = refl
  letters-after (zero ∷ p) (node e) = absurd (none-some _ e)
  letters-after (suc i ∷ p) (node e) =
      path_after-append g (letters p) (along (to_first p) i) [] ∙ ap (path_after g (along (to_first p) i)) (letters-after p (parent-named (suc i) p e)) ∙ along-after i p e
