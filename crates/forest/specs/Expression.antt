-- A rule as an expression over the forest algebra (document 003, section 2.1: a variable's right-hand side is applied until
-- no variable is left). The rule's number is kept at each step.
use Rattle.std.specs.Prelude.{ℕ, zero, suc, List, length}
use Rattle.rule.specs.declared.Rule.{Rule}
use Rattle.rule.specs.Rule.{rule}

-- document 003, section 2.3, the normal form: ε, BC, a⟨C⟩, B⟨C⟩ for closed rules; a⟨LxR⟩, B⟨C⟩ for holed ones
pub data Expression : Type 0 where
  empty : ℕ → Expression
  pair : ℕ → Expression → Expression → Expression
  node : ℕ → ℕ → Expression → Expression
  fill : ℕ → Expression → Expression → Expression
  part : ℕ → ℕ → Expression → Expression → Expression
  join : ℕ → Expression → Expression → Expression

-- the right-hand side of rule r, with an expression for each rule that it names
unfoldable pub rhs : ℕ → Rule → (ℕ → Expression) → Expression
rhs r Rule.Empty e = empty r
rhs r (Rule.Pair b c) e = pair r (e b) (e c)
rhs r (Rule.Node a c) e = node r a (e c)
rhs r (Rule.Fill b c) e = fill r (e b) (e c)
rhs r (Rule.Part a b c) e = part r a (e b) (e c)
rhs r (Rule.Join b c) e = join r (e b) (e c)

-- right-hand sides applied n deep
unfoldable pub unfolded : ℕ → List Rule → ℕ → Expression
unfolding rhs rule
unfolded zero R r = empty r
unfolded (suc n) R r = rhs r (rule R r) (unfolded n R)

-- the expression of rule r: as deep as there are rules, which is deep enough. In every accepted plan it is the rule's right-hand side, with
-- the expressions of the rules that it names (proofs/Unfold, `unfolding-equation`).
unfoldable pub expression : List Rule → ℕ → Expression
unfolding unfolded
expression R r = unfolded (length R) R r

-- the number of the rule that an expression stands for
unfoldable pub rule_number : Expression → ℕ
rule_number (empty r) = r
rule_number (pair r b c) = r
rule_number (node r a c) = r
rule_number (fill r b c) = r
rule_number (part r a b c) = r
rule_number (join r b c) = r
