-- What is said of both sides at once: the moves are, and no operation's outcome.
use Rattle.forest.specs.Place.{Side}

-- the other side, and the one of two that stands on a side
unfoldable pub other : Side → Side
other Side.left = Side.right
other Side.right = Side.left

unfoldable pub pick : {A : Type 0} → Side → A → A → A
pick Side.left b c = b
pick Side.right b c = c
