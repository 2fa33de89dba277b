-- The list of all variants has each at the number that names it, and a table of variants made as deep as there are rules gives every rule
-- its variants: depth beyond the rank changes nothing, as for expressions. Assumes nothing.
use Prim.Native.Nat.{ℕ, zero, suc, ◌+◌, ◌*◌, ◌/◌, ◌%◌, ◌<◌}
use native.Mathlib.Omega.{arith}
use mathlib.Core.Bool.{Bool}
use mathlib.Core.List.{List}
use mathlib.Core.Path.{◌≡◌, refl, ap, ◌∙◌}
use lib.ListN.{length}
use Rattle.rule.specs.declared.Rule.{Rule}
use Rattle.rule.specs.Names.{Names}
use Rattle.rule.specs.Sound.{rule, kind_in, Sound}
use Rattle.forest.proofs.Unfold.{named-below, named-falls}
use Rattle.copy_variants.specs.declared.Variants.{Variants}
use Rattle.copy_variants.specs.Variants.{seen_in, variants_from, Varied, variants_to, variants, variant, rules_from, variant_rules, threefold, variant_name, kind_of}

pub rules_from-length : (f : ℕ → Rule) (k m : ℕ) → length (rules_from f k m) ≡ m
unfolding rules_from
rules_from-length f k zero = refl
rules_from-length f k (suc m) = ap suc (rules_from-length f (suc k) m)

pub rules_from-rule : (f : ℕ → Rule) (k m i : ℕ) → i < m → rule (rules_from f k m) i ≡ f (k + i)
unfolding rules_from rule
rules_from-rule f k zero i l = absurd (omega (arith, l))
rules_from-rule f k (suc m) zero l = ap f (let e : k ≡ k + 0 = omega arith in e)
rules_from-rule f k (suc m) (suc i) l = rules_from-rule f (suc k) m i (omega (arith, l)) ∙ ap f (let e : suc k + i ≡ k + suc i = omega arith in e)

-- a name's rule and its variant
pub name-rule : (r t : ℕ) → t < 3 → variant_name r t / 3 ≡ r
name-rule r t l = omega (arith, l)

pub name-variant : (r t : ℕ) → t < 3 → variant_name r t % 3 ≡ t
name-variant r t l = omega (arith, l)

pub threefold-name : (rank : ℕ → ℕ) (r t : ℕ) → t < 3 → threefold rank (variant_name r t) ≡ 3 * rank r + t
unfolding threefold
threefold-name rank r t l = rw (name-rule r t l, name-variant r t l)

module _ (W : ℕ → Variants) (n : ℕ) where
  pub variants_length : length (variant_rules W n) ≡ 3 * n
  unfolding variant_rules
  variants_length = rules_from-length _ 0 (3 * n)

  pub variants-rule : (k : ℕ) → k < 3 * n → rule (variant_rules W n) k ≡ variant (W (k / 3)) (k % 3)
  unfolding variant_rules
  variants-rule k l =
      rules_from-rule (λ i. variant (W (i / 3)) (i % 3)) 0 (3 * n) k l ∙ ap (λ (i : ℕ). variant (W (i / 3)) (i % 3)) (let e : 0 + k ≡ k = omega arith in e)

  pub variant-rule : (r t : ℕ) → r < n → t < 3 → rule (variant_rules W n) (variant_name r t) ≡ variant (W r) t
  variant-rule r t h l = variants-rule (variant_name r t) (omega (arith, h, l)) ∙ rw (name-rule r t l, name-variant r t l)

  pub variant-kind : (r t : ℕ) → r < n → t < 3 → kind_in (variant_rules W n) (variant_name r t) ≡ kind_of (variant (W r) t)
  unfolding kind_in
  variant-kind r t h l = ap (λ (x : Rule). kind_of x) (variant-rule r t h l)

-- the variants of a rule ask for those of the named rules only
pub from-same : (seen : Bool) (r : ℕ) (x : Rule) (F G : ℕ → Variants) → ((k : ℕ) → Names x k → F k ≡ G k) → variants_from seen r x F ≡ variants_from seen r x G
unfolding variants_from
from-same seen r Rule.Empty F G h = refl
from-same seen r (Rule.Pair b c) F G h = refl
from-same seen r (Rule.Node a c) F G h = refl
from-same seen r (Rule.Fill b c) F G h = rw (h b Names.fill_one, h c Names.fill_two)
from-same seen r (Rule.Part a b c) F G h = refl
from-same seen r (Rule.Join b c) F G h = rw (h b Names.join_one, h c Names.join_two)

module _ (v : ℕ → Bool) {R : List Rule} {rank : ℕ → ℕ} (S : Sound R rank) where
  steady : (n m r : ℕ) → r < length R → rank r < n → rank r < m → variants_to v R n r ≡ variants_to v R m r
  unfolding variants_to
  steady zero m r h a b = absurd (omega (arith, a))
  steady (suc n) zero r h a b = absurd (omega (arith, b))
  steady (suc n) (suc m) r h a b =
      from-same (seen_in v (rule R r)) r (rule R r) (variants_to v R n) (variants_to v R m)
      (λ k t. let f : rank k < rank r = named-falls S r k h t in steady n m k (named-below S r k h t) (omega (arith, f, a)) (omega (arith, f, b)))

  pub varied : Varied v R (variants v R)
  unfolding variants variants_to
  varied r h = let l : rank r < length R = S.ranked r h in steady (length R) (suc (length R)) r h l (omega (arith, l))
