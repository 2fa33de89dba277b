-- Forests with other labels: a placed forest without its cells is one, which theorems speak of and no operation gives.
use Rattle.forest.specs.Forest.{Forest}

-- the same forest with other labels
unfoldable pub relabel : {A B : Type 0} → (A → B) → Forest A → Forest B
relabel h Forest.none = Forest.none
relabel h (Forest.tree a c f) = Forest.tree (h a) (relabel h c) (relabel h f)
