-- The tree with a number among siblings (document 02, Note 12: "the place among siblings, from 1"), looked for within a row by counts of trees,
-- and the node that is reached.
use Rattle.std.specs.Prelude.{ℕ, ◌+◌, ◌<◌, ◌≡◌, false}
use Rattle.forest.specs.Expression.{Expression, rule_number}
use Rattle.forest.specs.Place.{Cells, is_empty}
use Rattle.forest.specs.Position.{Position, Where, At, cells}
use Rattle.model.specs.Run.{Node}
use Rattle.transfer_path.specs.Spot.{Spot, tops, spot}

-- no pair that has one side alone: a row's opening names the other side's rule then
unfoldable pub Proper : Expression → Type 0
Proper (Expression.empty r) = Unit {0}
Proper (Expression.pair r b c) = (is_empty b ≡ false) × (is_empty c ≡ false)
Proper (Expression.node r a c) = Unit {0}
Proper (Expression.fill r b c) = Unit {0}
Proper (Expression.part r a b c) = Unit {0}
Proper (Expression.join r b c) = Unit {0}

-- rule a of E stands in a row of w, on the cells cs, and the tree behind i of its trees is the one at spot x
pub record Sought (E : ℕ → Expression) (w : Expression) (a i : ℕ) (cs : Cells) (x : Spot) : Type 0 where
  pub position : Position
  pub stands : At w Where.row (E a) position
  pub proper : Proper (E a)
  pub below : i < tops (E a)
  pub cells_are : cells position ≡ cs
  pub spot_is : ((spot position).0 + i, (spot position).1) ≡ x

-- rule a is a tree's, which stands in a row of w, on the cells cs, at spot x
pub record TreeAt (E : ℕ → Expression) (w : Expression) (a : ℕ) (cs : Cells) (x : Spot) : Type 0 where
  pub position : Position
  pub row : At w Where.row (E a) position
  pub stands : At w Where.tree (E a) position
  pub cells_are : cells position ≡ cs
  pub spot_is : spot position ≡ x

-- the walker's node n is the node of w at spot x
pub record NodeAt (w : Expression) (x : Spot) (n : Node) : Type 0 where
  pub expression : Expression
  pub position : Position
  pub here : At w Where.here expression position
  pub node_is : n ≡ (rule_number expression, cells position)
  pub spot_is : spot position ≡ x
