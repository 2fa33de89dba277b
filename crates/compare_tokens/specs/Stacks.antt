-- The tokens of a stack of tasks, the top first: what is left of a subtree's tokens.
use Rattle.std.specs.Prelude.{ℕ, List}
use Rattle.forest.specs.Expression.{Expression}
use Rattle.forest.specs.Spelling.{in_tokens}
use Rattle.spread_stack.specs.Stack.{tasks_spoken}

abbrev pub tasks_tokens : (ℕ → Expression) → List ℕ → List ℕ
tasks_tokens E vs = tasks_spoken in_tokens E vs
