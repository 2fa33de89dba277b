-- Sizes that theorems speak of and no operation gives: of expressions and of hedges.
use Rattle.std.specs.Prelude.{ℕ, suc, ◌+◌, max}
use Rattle.forest.specs.Expression.{Expression}
use Rattle.forest.specs.Algebra.{Hedge}

-- how deep right-hand sides are applied in an expression
unfoldable pub height : Expression → ℕ
height (Expression.empty r) = 0
height (Expression.pair r b c) = suc (max (height b) (height c))
height (Expression.node r a c) = suc (height c)
height (Expression.fill r b c) = suc (max (height b) (height c))
height (Expression.part r a b c) = suc (max (height b) (height c))
height (Expression.join r b c) = suc (max (height b) (height c))

-- how many holes a hedge has: none for a forest, one for a forest with a hole
unfoldable pub holes : Hedge → ℕ
holes Hedge.ε = 0
holes (Hedge.hole f) = suc (holes f)
holes (Hedge.node a c f) = holes c + holes f
