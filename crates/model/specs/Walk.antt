-- One letter and a whole call of the walker on cells (document 01, "Letters").
use Rattle.std.specs.Prelude.{ℕ, List, [], ◌∷◌}
use Rattle.std.specs.Prelude.{Option, None, Some, option_map, unwrap_or}
use Rattle.rule.specs.declared.Rule.{Rule}
use Rattle.forest.specs.Place.{Cells}
use Rattle.forest.specs.Letter.{Letter}
use Rattle.model.specs.Facts.{Facts}
use Rattle.model.specs.Model.{Node, child, sibling, parent, root}

-- a rule's label
unfoldable pub label : Rule → ℕ
label Rule.Empty = 0
label (Rule.Pair b c) = 0
label (Rule.Node a c) = a
label (Rule.Fill b c) = 0
label (Rule.Part a b c) = a
label (Rule.Join b c) = 0

-- "Above the forest all but a and z lead nowhere": above is a place without cells
unfoldable pub from_node : Cells → Option Node → Option Node
from_node [] y = None
from_node (c ∷ cs) y = y

-- the node that a letter leads to; r is the walked rule
unfoldable pub move : Facts → ℕ → Letter → Node → Option Node
move F r (Letter.root s) x = root F s r
move F r (Letter.child s) x = from_node x.1 (child F s x)
move F r (Letter.sibling s) x = from_node x.1 (sibling F s x)
move F r Letter.parent x = from_node x.1 (parent F x)
move F r Letter.stay x = from_node x.1 (Some x)

-- ".. for nowhere, and then the place is kept"
unfoldable pub moved : Facts → ℕ → Letter → Node → Node
moved F r l x = unwrap_or (move F r l x) x

-- the answer to one letter: the label of the node arrived at, or nowhere
unfoldable pub answer : Facts → ℕ → Letter → Node → Option ℕ
answer F r l x = option_map (λ (y : Node). label (F.rule y.0)) (move F r l x)

-- letters taken in turn: the answers, and the node after them
unfoldable pub answers : Facts → ℕ → List Letter → Node → List (Option ℕ)
answers F r [] x = []
answers F r (l ∷ ls) x = answer F r l x ∷ answers F r ls (moved F r l x)

unfoldable pub after : Facts → ℕ → List Letter → Node → Node
after F r [] x = x
after F r (l ∷ ls) x = after F r ls (moved F r l x)
