-- The code's sides, as the definitions have them.
use Rattle.forest.specs.Place.{Side}
use Rattle.side.specs.declared.Side as code

unfoldable pub side_of : code.Side → Side
side_of code.Side.Left = Side.left
side_of code.Side.Right = Side.right
