-- The counts of a forest that measure asks for, and how each right-hand side makes them from those of the rules that it names (document 01,
-- "Measure"). The hole of a holed expression counts nothing. The tops of a closed expression are its trees; those of a holed one are the
-- nodes above its hole. Proved in proofs/: so counted, an expression has the counts of the forest that it is worth.
use Rattle.std.specs.Prelude.{ℕ, suc, ◌+◌, min, max}
use Rattle.rule.specs.declared.Rule.{Rule}
use Rattle.forest.specs.Expression.{Expression}
use Rattle.forest.specs.Forest.{Forest, count, weigh, one, levels}
use Rattle.forest.specs.Outcome.{entry}
use Rattle.count_all.specs.declared.Counts.{Counts}

-- the counts of a forest
abbrev pub forest_counts : Forest ℕ → Counts
forest_counts g = record { nodes = weigh one g; entries = weigh entry g; tops = count g; levels = levels g }

-- of nothing
abbrev pub no_counts : Counts
no_counts = record { nodes = 0; entries = 0; tops = 0; levels = 0 }

-- both together, with l levels
abbrev pub joined : Counts → Counts → ℕ → Counts
joined m k l = record { nodes = m.nodes + k.nodes; entries = m.entries + k.entries; tops = m.tops + k.tops; levels = l }

-- side by side
unfoldable pub beside : Counts → Counts → Counts
beside m k = joined m k (max m.levels k.levels)

-- one in the hole of the other: it begins as deep as the hole lies
unfoldable pub filling : Counts → Counts → Counts
filling m k = joined m k (max m.levels (m.tops + k.levels))

-- a node over them
unfoldable pub over : ℕ → Counts → Counts
over a m = record { nodes = suc m.nodes; entries = entry a + m.entries; tops = 1; levels = suc m.levels }

-- one tree of what has a top
unfoldable pub one_tree : Counts → Counts
one_tree m = record { nodes = m.nodes; entries = m.entries; tops = min m.tops 1; levels = m.levels }

-- of a rule, from those of the rules that it names
unfoldable pub counts_of : (ℕ → Counts) → Rule → Counts
counts_of f Rule.Empty = no_counts
counts_of f (Rule.Pair b c) = beside (f b) (f c)
counts_of f (Rule.Node a c) = over a (f c)
counts_of f (Rule.Fill b c) = one_tree (filling (f b) (f c))
counts_of f (Rule.Part a b c) = over a (beside (f b) (f c))
counts_of f (Rule.Join b c) = filling (f b) (f c)

-- of an expression
unfoldable pub counts_in : Expression → Counts
counts_in (Expression.empty r) = no_counts
counts_in (Expression.pair r b c) = beside (counts_in b) (counts_in c)
counts_in (Expression.node r a c) = over a (counts_in c)
counts_in (Expression.fill r b c) = one_tree (filling (counts_in b) (counts_in c))
counts_in (Expression.part r a b c) = over a (beside (counts_in b) (counts_in c))
counts_in (Expression.join r b c) = filling (counts_in b) (counts_in c)
