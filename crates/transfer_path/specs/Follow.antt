-- A path followed in another forest (document 02, Note 12: "A new plan while dinner is open"). A path has the deepest number first.
use Rattle.std.specs.Prelude.{ℕ, ◌≡◌, Bool, true, ◌&&◌, List, [], ◌∷◌, ◌++◌, reverse, length, leb}
use Rattle.forest.specs.Forest.{Forest}
use Rattle.forest.specs.Reference.{Path, label_at, kept}

-- ".. follow it as far as each step exists, and stop there": the numbers of the steps, the next level's first, from the node at path p
unfoldable pub descended : {A : Type 0} → Forest A → Path → List ℕ → Path
descended g p [] = p
descended g p (i ∷ is) = kept (label_at g (i ∷ p)) p (descended g (i ∷ p) is)

-- "Take the old node's path, the place among siblings, from 1, at each level from the root"; "if the first step is missing, stand above the
-- forest"
unfoldable pub followed : {A : Type 0} → Forest A → Path → Path
followed g p = descended g [] (reverse p)

-- "17, the node is below level 64 (roots are level 1) or some sibling place on its path exceeds 65,535"
abbrev pub most_levels : ℕ
most_levels = 64

abbrev pub most_place : ℕ
most_place = 65535

unfoldable pub few_beside : Path → Bool
few_beside [] = true
few_beside (i ∷ p) = leb i most_place && few_beside p

-- 17 is for a path of which this is false
unfoldable pub carried : Path → Bool
carried p = leb (length p) most_levels && few_beside p

-- q is the path of a node above the one at p, or p itself, or empty: p less some deepest numbers
abbrev pub Beginning : Path → Path → Type 0
Beginning q p = (xs : List ℕ) × (p ≡ xs ++ q)
