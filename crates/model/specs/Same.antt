-- The same place, as a position in an expression and as cells.
use Rattle.std.specs.Prelude.{ℕ, []}
use Rattle.std.specs.Prelude.{Option, None, Some}
use Rattle.forest.specs.Expression.{Expression, rule_number}
use Rattle.forest.specs.Position.{Position, Located, At, Where, cells}
use Rattle.model.specs.Run.{Node}

-- the same place on positions and on cells; above the forest no rule is read
pub data Same (w : Expression) : Option Located → Node → Type 0 where
  above : {p : ℕ} → Same w None (p, [])
  at : {e : Expression} {z : Position} → At w Where.here e z → Same w (Some (e, z)) (rule_number e, cells z)
