-- The forest algebra (document 003, section 2.3), operation by operation.
use Rattle.std.specs.Prelude.{ℕ}
use Rattle.forest.specs.Expression.{Expression}

infixr 60 ◌·◌
infixl 70 ◌⟨◌⟩
-- "A forest is a list of trees .. a tree is of the form a(f)"; x is the hole. A hedge is nothing, or a hole and what stands
-- after it, or a tree a(f) and what stands after it.
pub data Hedge : Type 0 where
  ε : Hedge
  hole : Hedge → Hedge
  node : ℕ → Hedge → Hedge → Hedge

-- "x — a single hole"
abbrev pub x : Hedge
x = hole ε

-- "fg — horizontal concatenation"
unfoldable pub ◌·◌ : Hedge → Hedge → Hedge
ε · g = g
hole f · g = hole (f · g)
node a c f · g = node a c (f · g)

-- "a(x) — a single node with a hole"
abbrev pub single : ℕ → Hedge
single a = node a x ε

-- "f⟨g⟩ — substitution": x in f is replaced with g
unfoldable pub ◌⟨◌⟩ : Hedge → Hedge → Hedge
unfolding ◌·◌
ε ⟨ g ⟩ = ε
hole f ⟨ g ⟩ = g · (f ⟨ g ⟩)
node a c f ⟨ g ⟩ = node a (c ⟨ g ⟩) (f ⟨ g ⟩)

-- ⟦e⟧: the value of an expression, by the right-hand sides of the normal form
unfoldable pub value : Expression → Hedge
unfolding ◌·◌ ◌⟨◌⟩
value (Expression.empty r) = ε
value (Expression.pair r b c) = value b · value c
value (Expression.node r a c) = single a ⟨ value c ⟩
value (Expression.fill r b c) = value b ⟨ value c ⟩
value (Expression.part r a b c) = single a ⟨ value b · (x · value c) ⟩
value (Expression.join r b c) = value b ⟨ value c ⟩
