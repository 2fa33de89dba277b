-- How many nodes a part of an expression opens, by recursion, and the same of rules with any addition: exact, or one that stops at 2^64.
use Rattle.std.specs.Prelude.{ℕ, suc, ◌+◌, cond, eqb}
use Rattle.rule.specs.declared.Rule.{Rule}
use Rattle.forest.specs.Expression.{Expression}
use Rattle.count_passes.specs.Says.{whole, before, after}
use Rattle.spread_step.specs.Task.{task_by}

-- the nodes that are opened in a part: the whole, what stands before the hole, or after it
unfoldable pub part_nodes : Expression → ℕ → ℕ
part_nodes (Expression.empty r) p = 0
part_nodes (Expression.pair r b c) p = part_nodes b whole + part_nodes c whole
part_nodes (Expression.node r a c) p = suc (part_nodes c whole)
part_nodes (Expression.fill r b c) p = part_nodes b before + (part_nodes c whole + part_nodes b after)
part_nodes (Expression.part r a b c) p = cond (eqb p before) (suc (part_nodes b whole)) (part_nodes c whole)
part_nodes (Expression.join r b c) p = cond (eqb p before) (part_nodes b before + part_nodes c before) (part_nodes c after + part_nodes b after)

-- the two numbers of an expression: before its hole, and after it; of a closed one both are the whole's
abbrev pub before_in : Expression → ℕ
before_in e = part_nodes e before

abbrev pub after_in : Expression → ℕ
after_in e = part_nodes e after

-- one of two numbers, by the part
abbrev pub by_part : ℕ → ℕ → ℕ → ℕ
by_part p b a = cond (eqb p before) b a

-- the nodes that a task opens
unfoldable pub task_nodes : (ℕ → Expression) → ℕ → ℕ
task_nodes E v = task_by 0 0 (λ r p. by_part p (before_in (E r)) (after_in (E r))) v

-- the two numbers of a rule from those of the rules that it names, with an addition
unfoldable pub before_of : (ℕ → ℕ → ℕ) → (ℕ → ℕ) → (ℕ → ℕ) → Rule → ℕ
before_of plus b a Rule.Empty = 0
before_of plus b a (Rule.Pair l r) = plus (a l) (a r)
before_of plus b a (Rule.Node x c) = plus 1 (a c)
before_of plus b a (Rule.Fill l r) = plus (b l) (plus (a r) (a l))
before_of plus b a (Rule.Part x l r) = plus 1 (a l)
before_of plus b a (Rule.Join l r) = plus (b l) (b r)

unfoldable pub after_of : (ℕ → ℕ → ℕ) → (ℕ → ℕ) → (ℕ → ℕ) → Rule → ℕ
after_of plus b a Rule.Empty = 0
after_of plus b a (Rule.Pair l r) = plus (a l) (a r)
after_of plus b a (Rule.Node x c) = plus 1 (a c)
after_of plus b a (Rule.Fill l r) = plus (b l) (plus (a r) (a l))
after_of plus b a (Rule.Part x l r) = a r
after_of plus b a (Rule.Join l r) = plus (a r) (a l)
