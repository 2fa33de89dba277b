-- How the links of a row are made from the rows of the rules that its rule names.
use Rattle.std.specs.Prelude.{ℕ, ◌+◌, ◌^◌, ◌<◌, Bool, cond, ◌&&◌, List, eqb, ltb}
use Rattle.rule.specs.declared.Rule.{Rule}
use Rattle.rule.specs.Names.{Names}
use Rattle.forest.specs.Place.{Side}
use Rattle.forest.specs.Sides.{pick}
use Rattle.facts.specs.declared.Link.{Link}
use Rattle.facts.specs.Facts.{link_in, facts_in, In}

-- the jump of a rule whose next on side s is p (skew-binary): over p's jump and its jump if these are equally long, else p
unfoldable pub jump_over : List ℕ → Side → ℕ → ℕ → ℕ → Bool
jump_over t s p j k =
    ltb ((facts_in t).depth s j) ((facts_in t).depth s p)
    && eqb ((facts_in t).depth s j + (facts_in t).depth s j) ((facts_in t).depth s p + (facts_in t).depth s k)

unfoldable pub jump_from : List ℕ → Side → ℕ → ℕ
jump_from t s p =
    let j = (link_in t s p).jump in
    let k = (link_in t s j).jump in
    cond (jump_over t s p j k) k p

-- the link of a rule that steps to p, and of a rule that has no step
unfoldable pub link_from : List ℕ → Side → ℕ → Link
link_from t s p = record { toward = p; last = (facts_in t).last s p; depth = (facts_in t).depth s p + 1; jump = jump_from t s p }

unfoldable pub link_own : ℕ → Link
link_own r = record { toward = r; last = r; depth = 0; jump = r }

-- a pair of rules b and c: with one side empty, the link of the other; else a step to the side's representative
unfoldable pub link_pair : List ℕ → Side → ℕ → ℕ → Link
link_pair t s b c =
    cond ((facts_in t).is_empty b) (link_in t s c) (cond ((facts_in t).is_empty c) (link_in t s b) (link_from t s ((facts_in t).representative (pick s b c))))

unfoldable pub link_of : List ℕ → Side → ℕ → Rule → Link
link_of t s r Rule.Empty = link_own r
link_of t s r (Rule.Pair b c) = link_pair t s b c
link_of t s r (Rule.Node a c) = link_own r
link_of t s r (Rule.Fill b c) = link_own r
link_of t s r (Rule.Part a b c) = link_own r
link_of t s r (Rule.Join b c) = link_from t s (pick s b c)

-- the rows that a step to p looks at are there, and its number of steps fits
pub record Steps (t : List ℕ) (s : Side) (p : ℕ) : Type 0 where
  pub here : In t p
  pub there : In t (link_in t s p).jump
  pub beyond : In t (link_in t s (link_in t s p).jump).jump
  pub small : (facts_in t).depth s p + 1 < 2 ^ 16

-- what may be looked at through rule k is there: its row and its representative's, and what a step to either looks at
pub record Reads (t : List ℕ) (k : ℕ) : Type 0 where
  pub steps : (s : Side) → Steps t s k
  pub represents : (s : Side) → Steps t s ((facts_in t).representative k)

-- every rule that the rule x names may be looked at
pub record Ready (x : Rule) (t : List ℕ) : Type 0 where
  pub reads : (k : ℕ) → Names x k → Reads t k
