-- The letters (document 01, "Letters") as moves over a side.
use Rattle.std.specs.Prelude.{ℕ, Bool, true, false, cond, eqb}
use Rattle.std.specs.Prelude.{Option, None, Some}
use Rattle.forest.specs.Place.{Side}

pub data Letter : Type 0 where
  root : Side → Letter
  child : Side → Letter
  sibling : Side → Letter
  parent : Letter
  stay : Letter

-- "a, z: root of the first, last tree. f, l: first, last child. n, p: next, previous sibling .. u: parent. s: stay."
unfoldable pub letter_of : ℕ → Option Letter
letter_of b =
    cond (eqb b 97) (Some (root Side.left))
    (cond (eqb b 122) (Some (root Side.right))
    (cond (eqb b 102) (Some (child Side.left))
    (cond (eqb b 108) (Some (child Side.right))
    (cond (eqb b 110) (Some (sibling Side.right))
    (cond (eqb b 112) (Some (sibling Side.left))
    (cond (eqb b 117) (Some parent)
    (cond (eqb b 115) (Some stay)
    None)))))))

-- a or z
unfoldable pub is_root : Letter → Bool
is_root (root s) = true
is_root (child s) = false
is_root (sibling s) = false
is_root parent = false
is_root stay = false
