-- What the moves and the test of stored cells ask of the table: what its rows name has rows.
use Rattle.std.specs.Prelude.{ℕ, List}
use Rattle.rule.specs.declared.Rule.{Rule}
use Rattle.forest.specs.Place.{Side}
use Rattle.model.specs.Facts.{Facts}
use Rattle.facts.specs.Facts.{In, facts_in}

-- P holds of every rule that a rule names
unfoldable pub Names : (ℕ → Type 0) → Rule → Type 0
Names P Rule.Empty = Unit {0}
Names P (Rule.Pair b c) = P b × P c
Names P (Rule.Node a c) = P c
Names P (Rule.Fill b c) = P b × P c
Names P (Rule.Part a b c) = P b × P c
Names P (Rule.Join b c) = P b × P c

-- P holds of rule 0, and of every rule that the facts of a rule with P name
pub record Closed (F : Facts) (P : ℕ → Type 0) : Type 0 where
  pub least : P 0
  pub names : (r : ℕ) → P r → Names P (F.rule r)
  pub represents : (r : ℕ) → P r → P (F.representative r)
  pub steps : (s : Side) (r : ℕ) → P r → P (F.toward s r)
  pub ends : (s : Side) (r : ℕ) → P r → P (F.last s r)

-- the table's rows name only rules that have rows
abbrev pub Closes : List ℕ → Type 0
Closes t = Closed (facts_in t) (In t)
