-- The rules that a rule names (document 01, "A plan's bytes", the table of kinds), as a relation.
use Rattle.std.specs.Prelude.{ℕ}
use Rattle.rule.specs.declared.Rule.{Rule}

-- the rule names rule k
pub data Names : Rule → ℕ → Type 0 where
  pair_one : {b c : ℕ} → Names (Rule.Pair b c) b
  pair_two : {b c : ℕ} → Names (Rule.Pair b c) c
  node_one : {a c : ℕ} → Names (Rule.Node a c) c
  fill_one : {b c : ℕ} → Names (Rule.Fill b c) b
  fill_two : {b c : ℕ} → Names (Rule.Fill b c) c
  part_one : {a b c : ℕ} → Names (Rule.Part a b c) b
  part_two : {a b c : ℕ} → Names (Rule.Part a b c) c
  join_one : {b c : ℕ} → Names (Rule.Join b c) b
  join_two : {b c : ℕ} → Names (Rule.Join b c) c
