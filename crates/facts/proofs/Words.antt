-- In a row that is there the facts are the row's words. Assumes nothing.
use Prim.Native.Nat.{ℕ}
use mathlib.Core.Path.{◌≡◌}
use mathlib.Core.Bool.{true}
use mathlib.Core.List.{List}
use lib.Dec.{eqb}
use borrow.Author.Tests.{lt-ltb}
use Rattle.rule.specs.declared.Rule.{Rule}
use Rattle.forest.specs.Place.{Side}
use Rattle.work_rows.specs.Rows.{field, rule_in}
use Rattle.facts.specs.Facts.{at_representative, at_emptiness, link_in, In, row_or, facts_in}

row-or : {A : Type 0} (t : List ℕ) (r : ℕ) (x d : A) → In t r → row_or t r x d ≡ x
unfolding row_or
row-or t r x d h = rw (lt-ltb _ _ h)

module _ (t : List ℕ) (r : ℕ) (h : In t r) where
  pub facts_in-rule : (facts_in t).rule r ≡ rule_in t r
  unfolding facts_in
  facts_in-rule = row-or t r (rule_in t r) Rule.Empty h

  pub known-is_empty : (facts_in t).is_empty r ≡ eqb (field 2 t r at_emptiness) 1
  unfolding facts_in
  known-is_empty = row-or t r (eqb (field 2 t r at_emptiness) 1) true h

  pub facts_in-representative : (facts_in t).representative r ≡ field 2 t r at_representative
  unfolding facts_in
  facts_in-representative = row-or t r (field 2 t r at_representative) r h

  pub facts_in-toward : (s : Side) → (facts_in t).toward s r ≡ (link_in t s r).toward
  unfolding facts_in
  facts_in-toward s = row-or t r (link_in t s r).toward r h

  pub facts_in-last : (s : Side) → (facts_in t).last s r ≡ (link_in t s r).last
  unfolding facts_in
  facts_in-last s = row-or t r (link_in t s r).last r h

  pub facts_in-depth : (s : Side) → (facts_in t).depth s r ≡ (link_in t s r).depth
  unfolding facts_in
  facts_in-depth s = row-or t r (link_in t s r).depth 0 h
