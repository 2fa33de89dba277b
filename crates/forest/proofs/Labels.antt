-- Every label of a sound rule's forest is at most what the rules' own labels are: substitution and concatenation bring in no other. So it is
-- at most the largest. Assumes nothing.
use Prim.Native.Nat.{ℕ, ◌≤◌, ◌<◌}
use mathlib.Core.List.{List}
use lib.ListN.{length}
use lib.Dec.{T, leb→le}
use Rattle.rule.specs.declared.Rule.{Rule}
use Rattle.rule.specs.Rule.{labelled_to, labelled, largest_label}
use Rattle.rule.specs.Names.{Names}
use Rattle.rule.specs.Sound.{rule, Sound}
use Rattle.forest.specs.Expression.{Expression, rhs, expression}
use Rattle.forest.specs.Algebra.{Hedge, x, ◌·◌, ◌⟨◌⟩, single, value}
use Rattle.forest.specs.Forest.{trees, forest}
use Rattle.forest.specs.Place.{Placed, placed_forest}
use Rattle.forest.proofs.Unfold.{by_rank, unfolding-equation}
use Rattle.forest.proofs.Each.{Each, each_append, relabel-each}
use Rattle.forest.proofs.Forget.{trees-concat, label, placed_forest-forgets}

module _ (P : ℕ → Type 0) where
  pub each-concat : (f g : Hedge) → Each P (trees f) → Each P (trees g) → Each P (trees (f · g))
  each-concat f g h k = rw (trees-concat f g) (each_append P (trees f) (trees g) h k)

  pub each-⟨⟩ : (f g : Hedge) → Each P (trees f) → Each P (trees g) → Each P (trees (f ⟨ g ⟩))
  unfolding ◌⟨◌⟩ trees
  each-⟨⟩ Hedge.ε g h k = tt
  each-⟨⟩ (Hedge.hole f) g h k = each-concat g (f ⟨ g ⟩) k (each-⟨⟩ f g h k)
  each-⟨⟩ (Hedge.node a c f) g h k = (h.0, each-⟨⟩ c g h.1 k, each-⟨⟩ f g h.2 k)

  -- a right-hand side's own label, and those of the rules that it names
  each-rhs : (m : ℕ) (own : (a : ℕ) → a ≤ m → P a) (r : ℕ) (y : Rule) (E : ℕ → Expression) → T (labelled_to m y) →
      ((k : ℕ) → Names y k → Each P (trees (value (E k)))) → Each P (trees (value (rhs r y E)))
  unfolding rhs value labelled_to trees
  each-rhs m own r Rule.Empty E t h = tt
  each-rhs m own r (Rule.Pair b c) E t h = each-concat (value (E b)) (value (E c)) (h b Names.pair_one) (h c Names.pair_two)
  each-rhs m own r (Rule.Node a c) E t h = each-⟨⟩ (single a) (value (E c)) (own a (leb→le a m t), tt, tt) (h c Names.node_one)
  each-rhs m own r (Rule.Fill b c) E t h = each-⟨⟩ (value (E b)) (value (E c)) (h b Names.fill_one) (h c Names.fill_two)
  each-rhs m own r (Rule.Part a b c) E t h =
      each-⟨⟩ (single a) (value (E b) · (x · value (E c))) (own a (leb→le a m t), tt, tt)
      (each-concat (value (E b)) (x · value (E c)) (h b Names.part_one) (each-concat x (value (E c)) tt (h c Names.part_two)))
  each-rhs m own r (Rule.Join b c) E t h = each-⟨⟩ (value (E b)) (value (E c)) (h b Names.join_one) (h c Names.join_two)

module _ {R : List Rule} {rank : ℕ → ℕ} (S : Sound R rank) where
  pub forest-labelled : (m : ℕ) → ((r : ℕ) → r < length R → T (labelled_to m (rule R r))) → (r : ℕ) → r < length R → Each (λ a. a ≤ m) (forest R r)
  unfolding forest
  forest-labelled m labels =
      by_rank S (λ r. Each (λ a. a ≤ m) (trees (value (expression R r))))
      (λ r h f. rw (unfolding-equation S r h) (each-rhs (λ a. a ≤ m) m (λ a l. l) r (rule R r) (expression R) (labels r h) f))

  pub forest-labels : (r : ℕ) → r < length R → Each (λ a. a ≤ largest_label) (forest R r)
  unfolding labelled
  forest-labels = forest-labelled largest_label (λ r h. S.labels r h)

  pub placed_forest-labels : (r : ℕ) → r < length R → Each (λ (p : Placed). p.0 ≤ largest_label) (placed_forest R r)
  placed_forest-labels r h = relabel-each (λ a. a ≤ largest_label) label (placed_forest R r) (rw (placed_forest-forgets R r) (forest-labels r h))
