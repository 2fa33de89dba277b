-- What holds of both of two holds of the one on a side. Assumes nothing.
use Rattle.forest.specs.Place.{Side}
use Rattle.forest.specs.Sides.{pick}

pub picked : {A : Type 0} (P : A → Type 0) (s : Side) (b c : A) → P b → P c → P (pick s b c)
unfolding pick
picked P Side.left b c x y = x
picked P Side.right b c x y = y
