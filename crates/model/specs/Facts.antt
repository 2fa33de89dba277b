-- What the walker knows of each rule by its number (document 01, "The stored place"; document 000's runs within a row or
-- spine), and where it comes from: the rule's expression.
use Rattle.std.specs.Prelude.{ℕ, suc, Bool, cond, List}
use Rattle.rule.specs.declared.Rule.{Rule}
use Rattle.rule.specs.Sound.{rule}
use Rattle.forest.specs.Expression.{Expression, expression, rule_number}
use Rattle.forest.specs.Place.{Side, is_empty, representative}
use Rattle.forest.specs.Sides.{pick}

-- the facts of each rule: its right-hand side; whether it has no trees; its representative; one step left or right within a
-- row or spine; the end of the longest run of such steps, and the number of steps to it
pub record Facts : Type 0 where
  pub rule : ℕ → Rule
  pub is_empty : ℕ → Bool
  pub representative : ℕ → ℕ
  pub toward : Side → ℕ → ℕ
  pub last : Side → ℕ → ℕ
  pub depth : Side → ℕ → ℕ

-- one step from an expression: of a pair to its side's representative, of a join to its side; a one-sided pair steps as its
-- non-empty side does, and the others stay
unfoldable pub toward : Side → Expression → ℕ
toward s (Expression.empty r) = r
toward s (Expression.pair r b c) =
    cond (is_empty b) (toward s c) (cond (is_empty c) (toward s b) (representative (pick s b c)))
toward s (Expression.node r a c) = r
toward s (Expression.fill r b c) = r
toward s (Expression.part r a b c) = r
toward s (Expression.join r b c) = rule_number (pick s b c)

-- the end of the longest run
unfoldable pub last : Side → Expression → ℕ
last s (Expression.empty r) = r
last s (Expression.pair r b c) = cond (is_empty b) (last s c) (cond (is_empty c) (last s b) (pick s (last s b) (last s c)))
last s (Expression.node r a c) = r
last s (Expression.fill r b c) = r
last s (Expression.part r a b c) = r
last s (Expression.join r b c) = pick s (last s b) (last s c)

-- the number of steps of the longest run
unfoldable pub depth : Side → Expression → ℕ
depth s (Expression.empty r) = 0
depth s (Expression.pair r b c) =
    cond (is_empty b) (depth s c) (cond (is_empty c) (depth s b) (suc (pick s (depth s b) (depth s c))))
depth s (Expression.node r a c) = 0
depth s (Expression.fill r b c) = 0
depth s (Expression.part r a b c) = 0
depth s (Expression.join r b c) = suc (pick s (depth s b) (depth s c))

-- the facts of the rules of a plan
unfoldable pub facts_of : List Rule → Facts
facts_of R =
    record {
      rule = rule R;
      is_empty = λ r. is_empty (expression R r);
      representative = λ r. representative (expression R r);
      toward = λ s r. toward s (expression R r);
      last = λ s r. last s (expression R r);
      depth = λ s r. depth s (expression R r);
    }
