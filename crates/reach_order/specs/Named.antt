-- The rules that a rule names, as the code finds them: none, or two, which are the same where the rule names one.
use Rattle.std.specs.Prelude.{ℕ, ◌≡◌, ◌⊎◌, Option, None, Some}
use Rattle.rule.specs.declared.Rule.{Rule}

abbrev pub Named : Type 0
Named = Option (ℕ × ℕ)

unfoldable pub names_of : Rule → Named
names_of Rule.Empty = None
names_of (Rule.Pair b c) = Some (b, c)
names_of (Rule.Node a c) = Some (c, c)
names_of (Rule.Fill b c) = Some (b, c)
names_of (Rule.Part a b c) = Some (b, c)
names_of (Rule.Join b c) = Some (b, c)

-- k is one of them; and so exactly where the rule names k (proofs/Finding, `names-exact`)
unfoldable pub In : Named → ℕ → Type 0
In None k = ⊥
In (Some (a, b)) k = (k ≡ a) ⊎ (k ≡ b)
