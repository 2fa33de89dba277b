-- The reference walker (document 01, "The finger of demand 3"): a path on the unfolded forest. A path holds "the sibling
-- numbers from 1 at each level", the deepest first; above the forest it is empty.
use Rattle.std.specs.Prelude.{ℕ, zero, suc, pred, Bool, true, false, cond, not, ◌&&◌, List, [], ◌∷◌}
use Rattle.std.specs.Prelude.{Option, None, Some}
use Rattle.forest.specs.Forest.{Forest, count}
use Rattle.forest.specs.Place.{Side}
use Rattle.forest.specs.Letter.{Letter, is_root}

abbrev pub Path : Type 0
Path = List ℕ

-- the forest without its first i trees
unfoldable pub later : {A : Type 0} → ℕ → Forest A → Forest A
later zero g = g
later (suc i) Forest.none = Forest.none
later (suc i) (Forest.tree a c f) = later i f

-- from the tree numbered i (from 1) on; nothing for the number 0
unfoldable pub from : {A : Type 0} → ℕ → Forest A → Forest A
unfolding later
from zero g = Forest.none
from (suc i) g = later i g

-- the children of the first tree, and its label
unfoldable pub below : {A : Type 0} → Forest A → Forest A
below Forest.none = Forest.none
below (Forest.tree a c f) = c

unfoldable pub top : {A : Type 0} → Forest A → Option A
top Forest.none = None
top (Forest.tree a c f) = Some a

-- the children of the node at a path, and the trees for the empty path
unfoldable pub children_at : {A : Type 0} → Forest A → Path → Forest A
unfolding below from
children_at g [] = g
children_at g (i ∷ p) = below (from i (children_at g p))

-- the node at a path: it and its later siblings; nothing where the path "is empty or names no node"
unfoldable pub node_at : {A : Type 0} → Forest A → Path → Forest A
unfolding from children_at
node_at g [] = Forest.none
node_at g (i ∷ p) = from i (children_at g p)

-- the label of the node at a path
unfoldable pub label_at : {A : Type 0} → Forest A → Path → Option A
unfolding top node_at
label_at g p = top (node_at g p)

-- the number of the first or last tree of a forest
unfoldable pub end_of : {A : Type 0} → Side → Forest A → ℕ
unfolding count
end_of Side.left g = 1
end_of Side.right g = count g

-- the number one higher (right) or lower (left)
unfoldable pub shifted : Side → ℕ → ℕ
shifted Side.left i = pred i
shifted Side.right i = suc i

-- "Each tries a path: a, the number 1 alone; z, the number of roots alone; f, 1 added at the end; l, the number of children
-- added at the end; n and p, the last number one higher and one lower; u, the last number dropped; s, the path itself."
unfoldable pub tried : {A : Type 0} → Forest A → Letter → Path → Path
unfolding end_of children_at shifted
tried g (Letter.root s) p = end_of s g ∷ []
tried g (Letter.child s) p = end_of s (children_at g p) ∷ p
tried g (Letter.sibling s) [] = []
tried g (Letter.sibling s) (i ∷ p) = shifted s i ∷ p
tried g Letter.parent [] = []
tried g Letter.parent (i ∷ p) = p
tried g Letter.stay p = p

unfoldable pub is_above : Path → Bool
is_above [] = true
is_above (i ∷ p) = false

-- "If the path was empty and the letter isn't a or z, or if the path tried is empty or names no node, the answer is nowhere"
unfoldable pub answer : {A : Type 0} → Forest A → Letter → Path → Option A
unfolding label_at tried is_above is_root
answer g c p = cond (is_above p && not (is_root c)) None (label_at g (tried g c p))

-- ".. and the path stays. Else the path tried is kept"
unfoldable pub kept : {A : Type 0} → Option A → Path → Path → Path
kept None old new = old
kept (Some a) old new = new

unfoldable pub moved : {A : Type 0} → Forest A → Letter → Path → Path
unfolding kept answer tried
moved g c p = kept (answer g c p) p (tried g c p)

-- letters taken in turn: the answers, and the path after them
unfoldable pub answers : {A : Type 0} → Forest A → List Letter → Path → List (Option A)
unfolding answer moved
answers g [] p = []
answers g (c ∷ cs) p = answer g c p ∷ answers g cs (moved g c p)

unfoldable pub path_after : {A : Type 0} → Forest A → List Letter → Path → Path
unfolding moved
path_after g [] p = p
path_after g (c ∷ cs) p = path_after g cs (moved g c p)
