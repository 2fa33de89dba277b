-- The rows of work filled: with the rules of a plan, and what is known of each.
use Rattle.std.specs.Prelude.{◌≡◌, List, ℕ}
use Rattle.rule.specs.declared.Rule.{Rule}
use Rattle.model.specs.Facts.{facts_of}
use Rattle.facts.specs.Facts.{facts_in, Climbs}
use Rattle.letter_moves.specs.Standing.{rules_kept}

-- the table is that of the rules R
pub record Filled (R : List Rule) (t : List ℕ) : Type 0 where
  pub rules : rules_kept t ≡ R
  pub facts_are : facts_in t ≡ facts_of R
  pub climbs : Climbs t
