-- Forests side by side: append has a unit and is associative, and relabelling goes through it. Assumes nothing.
use mathlib.Core.Path.{◌≡◌, refl, ap}
use Rattle.forest.specs.Forest.{Forest, append}
use Rattle.forest.specs.Relabel.{relabel}

pub append-none : {A : Type 0} (f : Forest A) → append f Forest.none ≡ f
unfolding append
append-none Forest.none = refl
append-none (Forest.tree a c f) = ap (Forest.tree a c) (append-none f)

pub append-append : {A : Type 0} (f g h : Forest A) → append (append f g) h ≡ append f (append g h)
unfolding append
append-append Forest.none g h = refl
append-append (Forest.tree a c f) g h = ap (Forest.tree a c) (append-append f g h)

pub relabel-append : {A B : Type 0} (h : A → B) (f g : Forest A) → relabel h (append f g) ≡ append (relabel h f) (relabel h g)
unfolding relabel append
relabel-append h Forest.none g = refl
relabel-append h (Forest.tree a c f) g = ap (Forest.tree (h a) (relabel h c)) (relabel-append h f g)
