-- What a rule keeps when the rules that it names get other numbers: its kind, its label, its sorts, and its value where the named values
-- are kept. Assumes nothing.
use Prim.Native.Nat.{ℕ}
use mathlib.Core.Bool.{Bool, ◌&&◌}
use mathlib.Core.Path.{◌≡◌, refl, ap, ap₂}
use Rattle.rule.specs.declared.Rule.{Rule}
use Rattle.rule.specs.Rule.{encode, every, sorts, closed, holed, tree, labelled, labelled_to}
use Rattle.rule.specs.Names.{Names, pair_one, pair_two, node_one, fill_one, fill_two, part_one, part_two, join_one, join_two}
use Rattle.forest.specs.Expression.{Expression, rhs}
use Rattle.forest.specs.Algebra.{x, single, ◌·◌, ◌⟨◌⟩, value}
use Rattle.copy_variants.specs.Variants.{kind_of, seen_in}
use Rattle.copy_passes.specs.Passes.{renamed}

module _ (f : ℕ → ℕ) where
  pub renamed-kind : (y : Rule) → kind_of (renamed f y) ≡ kind_of y
  unfolding renamed encode
  renamed-kind Rule.Empty = refl
  renamed-kind (Rule.Pair b c) = refl
  renamed-kind (Rule.Node a c) = refl
  renamed-kind (Rule.Fill b c) = refl
  renamed-kind (Rule.Part a b c) = refl
  renamed-kind (Rule.Join b c) = refl

  pub renamed-every : (p : ℕ → Bool) (y : Rule) → every p (renamed f y) ≡ every (λ k. p (f k)) y
  unfolding renamed every
  renamed-every p Rule.Empty = refl
  renamed-every p (Rule.Pair b c) = refl
  renamed-every p (Rule.Node a c) = refl
  renamed-every p (Rule.Fill b c) = refl
  renamed-every p (Rule.Part a b c) = refl
  renamed-every p (Rule.Join b c) = refl

  pub renamed-labelled : (y : Rule) → labelled (renamed f y) ≡ labelled y
  unfolding renamed labelled labelled_to
  renamed-labelled Rule.Empty = refl
  renamed-labelled (Rule.Pair b c) = refl
  renamed-labelled (Rule.Node a c) = refl
  renamed-labelled (Rule.Fill b c) = refl
  renamed-labelled (Rule.Part a b c) = refl
  renamed-labelled (Rule.Join b c) = refl

  pub renamed-seen : (v : ℕ → Bool) (y : Rule) → seen_in v (renamed f y) ≡ seen_in v y
  unfolding renamed seen_in
  renamed-seen v Rule.Empty = refl
  renamed-seen v (Rule.Pair b c) = refl
  renamed-seen v (Rule.Node a c) = refl
  renamed-seen v (Rule.Fill b c) = refl
  renamed-seen v (Rule.Part a b c) = refl
  renamed-seen v (Rule.Join b c) = refl

  pub renamed-names : {y : Rule} {k : ℕ} → Names y k → Names (renamed f y) (f k)
  unfolding renamed
  renamed-names pair_one = pair_one
  renamed-names pair_two = pair_two
  renamed-names node_one = node_one
  renamed-names fill_one = fill_one
  renamed-names fill_two = fill_two
  renamed-names part_one = part_one
  renamed-names part_two = part_two
  renamed-names join_one = join_one
  renamed-names join_two = join_two

  pub renamed-sorts : (kind old : ℕ → ℕ) (y : Rule) → ((k : ℕ) → Names y k → kind (f k) ≡ old k) → sorts kind (renamed f y) ≡ sorts old y
  unfolding renamed sorts
  renamed-sorts kind old Rule.Empty h = refl
  renamed-sorts kind old (Rule.Pair b c) h = ap₂ (λ m n. closed m && closed n) (h b pair_one) (h c pair_two)
  renamed-sorts kind old (Rule.Node a c) h = ap closed (h c node_one)
  renamed-sorts kind old (Rule.Fill b c) h = ap₂ (λ m n. holed m && tree n) (h b fill_one) (h c fill_two)
  renamed-sorts kind old (Rule.Part a b c) h = ap₂ (λ m n. closed m && closed n) (h b part_one) (h c part_two)
  renamed-sorts kind old (Rule.Join b c) h = ap₂ (λ m n. holed m && holed n) (h b join_one) (h c join_two)

  pub renamed-value : (E G : ℕ → Expression) (r k : ℕ) (y : Rule) → ((k : ℕ) → Names y k → value (E (f k)) ≡ value (G k))
      → value (rhs r (renamed f y) E) ≡ value (rhs k y G)
  unfolding renamed rhs value
  renamed-value E G r k Rule.Empty h = refl
  renamed-value E G r k (Rule.Pair b c) h = ap₂ ◌·◌ (h b pair_one) (h c pair_two)
  renamed-value E G r k (Rule.Node a c) h = ap (λ g. single a ⟨ g ⟩) (h c node_one)
  renamed-value E G r k (Rule.Fill b c) h = ap₂ ◌⟨◌⟩ (h b fill_one) (h c fill_two)
  renamed-value E G r k (Rule.Part a b c) h = ap₂ (λ g i. single a ⟨ g · (x · i) ⟩) (h b part_one) (h c part_two)
  renamed-value E G r k (Rule.Join b c) h = ap₂ ◌⟨◌⟩ (h b join_one) (h c join_two)
