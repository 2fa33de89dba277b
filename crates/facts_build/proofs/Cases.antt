-- What is known of a rule by its kind: each case of the definition is what its own row, another row or two steps say. Assumes nothing.
use Prim.Native.Nat.{ℕ}
use mathlib.Core.Path.{◌≡◌, refl}
use mathlib.Core.Bool.{true, false}
use mathlib.Core.List.{List}
use Rattle.rule.specs.declared.Rule.{Rule}
use Rattle.rule.specs.Names.{Names}
use Rattle.forest.specs.Place.{Side}
use Rattle.forest.specs.Sides.{pick}
use Rattle.facts.specs.Facts.{facts_in}
use Rattle.facts.specs.Build.{link_of, link_pair, Ready}
use Rattle.facts_build.specs.RuleFacts.{empty_of, representative_of, rule_facts_of, own_facts, known_facts, stepping_facts, BothSteps}

module _ (t : List ℕ) (r b c : ℕ) where
  -- a pair, by which side is empty
  pub first-empty : (facts_in t).is_empty b ≡ true → known_facts t c ≡ rule_facts_of t r (Rule.Pair b c)
  unfolding known_facts rule_facts_of representative_of empty_of link_of link_pair
  first-empty e = rw e

  pub second_empty : (facts_in t).is_empty b ≡ false → (facts_in t).is_empty c ≡ true → known_facts t b ≡ rule_facts_of t r (Rule.Pair b c)
  unfolding known_facts rule_facts_of representative_of empty_of link_of link_pair
  second_empty e f = rw (e, f)

  pub neither-empty : (facts_in t).is_empty b ≡ false → (facts_in t).is_empty c ≡ false
      → stepping_facts t r ((facts_in t).representative b) ((facts_in t).representative c) ≡ rule_facts_of t r (Rule.Pair b c)
  unfolding stepping_facts rule_facts_of representative_of empty_of link_of link_pair pick
  neither-empty e f = rw (e, f)

  -- what the steps look at is there
  pub pair-both : Ready (Rule.Pair b c) t → BothSteps t ((facts_in t).representative b) ((facts_in t).representative c)
  pair-both h = record { left = (h.reads b Names.pair_one).represents Side.left; right = (h.reads c Names.pair_two).represents Side.right }

  pub join-both : Ready (Rule.Join b c) t → BothSteps t b c
  join-both h = record { left = (h.reads b Names.join_one).steps Side.left; right = (h.reads c Names.join_two).steps Side.right }

  -- a join
  pub join-steps : stepping_facts t r b c ≡ rule_facts_of t r (Rule.Join b c)
  unfolding stepping_facts rule_facts_of representative_of empty_of link_of pick
  join-steps = refl

module _ (t : List ℕ) (r : ℕ) where
  -- the other kinds
  pub empty-own : own_facts r true ≡ rule_facts_of t r Rule.Empty
  unfolding own_facts rule_facts_of representative_of empty_of link_of
  empty-own = refl

  pub node-own : (a c : ℕ) → own_facts r false ≡ rule_facts_of t r (Rule.Node a c)
  unfolding own_facts rule_facts_of representative_of empty_of link_of
  node-own a c = refl

  pub fill-own : (b c : ℕ) → own_facts r false ≡ rule_facts_of t r (Rule.Fill b c)
  unfolding own_facts rule_facts_of representative_of empty_of link_of
  fill-own b c = refl

  pub part-own : (a b c : ℕ) → own_facts r false ≡ rule_facts_of t r (Rule.Part a b c)
  unfolding own_facts rule_facts_of representative_of empty_of link_of
  part-own a b c = refl
