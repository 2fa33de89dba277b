-- Which rules a rule reaches (document 02, Note 1: "some rule reaches itself through the rules it names").
use Rattle.std.specs.Prelude.{ℕ, zero, suc, Bool, false, cond, ◌||◌, List, length, eqb}
use Rattle.std.specs.Prelude.{Option, None, Some}
use Rattle.rule.specs.declared.Rule.{Rule}
use Rattle.rule.specs.Names.{Names}
use Rattle.rule.specs.Sound.{rule}

-- rule a reaches rule b: it names it, or it names a rule that reaches it
pub data Reaches (R : List Rule) : ℕ → ℕ → Type 0 where
  named : {a b : ℕ} → Names (rule R a) b → Reaches R a b
  through : {a x b : ℕ} → Names (rule R a) x → Reaches R x b → Reaches R a b

-- p holds of some rule that this one names
unfoldable pub any_named : (ℕ → Bool) → Rule → Bool
any_named p Rule.Empty = false
any_named p (Rule.Pair b c) = p b || p c
any_named p (Rule.Node a c) = p c
any_named p (Rule.Fill b c) = p b || p c
any_named p (Rule.Part a l r) = p l || p r
any_named p (Rule.Join b c) = p b || p c

-- The same as a test: rule b is named within k steps from rule a; and as many steps as there are rules are enough (proofs/Steps,
-- `reaches-exact`).
unfoldable pub within : List Rule → ℕ → ℕ → ℕ → Bool
within R zero a b = false
within R (suc k) a b = any_named (λ x. eqb x b || within R k x b) (rule R a)

unfoldable pub reaches : List Rule → ℕ → ℕ → Bool
reaches R a b = within R (length R) a b

-- "position the lowest such rule": the first of m rules from i on that reaches itself, and the lowest of all
unfoldable pub cycle_from : List Rule → ℕ → ℕ → Option ℕ
cycle_from R i zero = None
cycle_from R i (suc m) = cond (reaches R i i) (Some i) (cycle_from R (suc i) m)

unfoldable pub lowest_cycle : List Rule → Option ℕ
lowest_cycle R = cycle_from R 0 (length R)
