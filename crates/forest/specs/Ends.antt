-- Where siblings end, on a forest (document 01, "Letters").
use Rattle.std.specs.Prelude.{ℕ, Bool, true, false, leb}
use Rattle.forest.specs.Forest.{Forest, count}
use Rattle.forest.specs.Place.{Side}

-- no trees
unfoldable pub has_none : {A : Type 0} → Forest A → Bool
has_none Forest.none = true
has_none (Forest.tree a c f) = false

-- there is no sibling on that side of the tree numbered i
unfoldable pub at_end : {A : Type 0} → Side → Forest A → ℕ → Bool
unfolding count
at_end Side.left g i = leb i 1
at_end Side.right g i = leb (count g) i
