-- All that is known of a rule: its facts, in its row behind the rule, and how they are made from the rows of the rules that its rule names.
use Rattle.std.specs.Prelude.{ℕ, Bool, true, false, cond, ◌&&◌, List, eqb}
use Rattle.rule.specs.declared.Rule.{Rule}
use Rattle.forest.specs.Place.{Side}
use Rattle.work_rows.specs.Rows.{field, put_field}
use Rattle.facts_build.specs.declared.RuleFacts.{RuleFacts}
use Rattle.facts.specs.Facts.{at_representative, at_emptiness, link_in, put_link, facts_in}
use Rattle.facts.specs.Build.{link_from, link_own, link_of, Steps}

-- a test as a word
unfoldable pub flag : Bool → ℕ
flag true = 1
flag false = 0

-- all that row r keeps beside the rule, and a list with something else there
unfoldable pub rule_facts_in : List ℕ → ℕ → RuleFacts
rule_facts_in t r =
    record {
      representative = field 2 t r at_representative;
      empty = eqb (field 2 t r at_emptiness) 1;
      left = link_in t Side.left r;
      right = link_in t Side.right r;
    }

unfoldable pub put_rule_facts : List ℕ → ℕ → RuleFacts → List ℕ
put_rule_facts t r e =
    put_link (put_link (put_field 2 (put_field 2 t r at_representative e.representative) r at_emptiness (flag e.empty)) Side.left r e.left) Side.right r
    e.right

-- whether a rule is without trees, and its representative
unfoldable pub empty_of : List ℕ → Rule → Bool
empty_of t Rule.Empty = true
empty_of t (Rule.Pair b c) = (facts_in t).is_empty b && (facts_in t).is_empty c
empty_of t (Rule.Node a c) = false
empty_of t (Rule.Fill b c) = false
empty_of t (Rule.Part a b c) = false
empty_of t (Rule.Join b c) = false

unfoldable pub representative_of : List ℕ → ℕ → Rule → ℕ
representative_of t r Rule.Empty = r
representative_of t r (Rule.Pair b c) =
    cond ((facts_in t).is_empty b) ((facts_in t).representative c) (cond ((facts_in t).is_empty c) ((facts_in t).representative b) r)
representative_of t r (Rule.Node a c) = r
representative_of t r (Rule.Fill b c) = r
representative_of t r (Rule.Part a b c) = r
representative_of t r (Rule.Join b c) = r

-- all that is known of rule r with that right-hand side
unfoldable pub rule_facts_of : List ℕ → ℕ → Rule → RuleFacts
rule_facts_of t r x =
    record { representative = representative_of t r x; empty = empty_of t x; left = link_of t Side.left r x; right = link_of t Side.right r x }

-- what is known of a rule that has no step, of a rule by its own row, and of one that steps to p on the left and to q on the right
unfoldable pub own_facts : ℕ → Bool → RuleFacts
own_facts r empty = record { representative = r; empty = empty; left = link_own r; right = link_own r }

unfoldable pub known_facts : List ℕ → ℕ → RuleFacts
known_facts t r =
    record { representative = (facts_in t).representative r; empty = (facts_in t).is_empty r; left = link_in t Side.left r; right = link_in t Side.right r }

unfoldable pub stepping_facts : List ℕ → ℕ → ℕ → ℕ → RuleFacts
stepping_facts t r p q = record { representative = r; empty = false; left = link_from t Side.left p; right = link_from t Side.right q }

-- what both steps look at is there
pub record BothSteps (t : List ℕ) (p q : ℕ) : Type 0 where
  pub left : Steps t Side.left p
  pub right : Steps t Side.right q
