-- The code's letters, and what a byte is, as the definitions have them (document 01, "Letters").
use Rattle.forest.specs.Place.{Side}
use Rattle.forest.specs.Letter as spec
use Rattle.letter.specs.declared.Letter.{Letter}

unfoldable pub move_of : Letter → spec.Letter
move_of Letter.A = spec.Letter.root Side.left
move_of Letter.Z = spec.Letter.root Side.right
move_of Letter.F = spec.Letter.child Side.left
move_of Letter.L = spec.Letter.child Side.right
move_of Letter.N = spec.Letter.sibling Side.right
move_of Letter.P = spec.Letter.sibling Side.left
move_of Letter.U = spec.Letter.parent
move_of Letter.S = spec.Letter.stay
