-- What the variants of a sound plan's rules stand for: the whole one for what is shown of the rule's value, the shut one for that with its
-- hole left empty, the inner one of a part for its children around the hole. By induction over the rules; a filling whose hole is gone, or
-- whose filler is empty, is the right-hand side that it copies. Assumes nothing.
use Prim.Native.Nat.{ℕ, ◌<◌}
use native.Mathlib.Omega.{arith}
use mathlib.Core.Bool.{Bool, true, false, cond}
use mathlib.Core.List.{List}
use mathlib.Core.Path.{◌≡◌, refl, sym, ap, ap₂, ◌∙◌}
use lib.ListN.{length}
use lib.Dec.{T}
use Rattle.rule.specs.declared.Rule.{Rule}
use Rattle.rule.specs.Rule.{encode, sorts, closed, holed, tree}
use Rattle.rule.specs.Names.{Names}
use Rattle.rule.specs.Sound.{rule, kind_in, Sound, Closed}
use Rattle.rule.proofs.Names.{T-left, T-right}
use Rattle.forest.specs.Expression.{Expression, rhs, expression}
use Rattle.forest.specs.Algebra.{Hedge, ◌·◌, ◌⟨◌⟩, value}
use Rattle.forest.specs.Sizes.{holes}
use Rattle.forest.specs.Forest.{trees, forest}
use Rattle.forest.proofs.Unfold.{named-below, by_rank, unfolding-equation}
use Rattle.forest.proofs.Values.{concat-⟨⟩, ⟨⟩-assoc, closed-⟨⟩, value-node, value-part, closed-value}
use Rattle.copy_variants.specs.declared.Variants.{Variants}
use Rattle.copy_variants.specs.Visible.{visible}
use Rattle.copy_variants.specs.Variants.{seen_in, filling, closed_variants, variants_from, Varied, variant, variant_rules, variant_name, inner_name, whole_name, shut_name, kind_of}
use Rattle.copy_variants.proofs.Shown.{shown, shown-concat, shown-⟨⟩, trees-shown, shown-closed}
use Rattle.copy_variants.proofs.Table.{variant-rule, variant-kind, variants_length}
use Rattle.copy_variants.proofs.Shapes.{is_pair, not-holed, tree-single, holed-single, nothing-else, filling-cases}
use Rattle.copy_variants.proofs.Fit.{all-sided, variants-sound}

-- the value of a right-hand side doesn't ask for its rule's number
pub value-rhs : (r k : ℕ) (x : Rule) (E : ℕ → Expression) → value (rhs r x E) ≡ value (rhs k x E)
unfolding value rhs
value-rhs r k Rule.Empty E = refl
value-rhs r k (Rule.Pair b c) E = refl
value-rhs r k (Rule.Node a c) E = refl
value-rhs r k (Rule.Fill b c) E = refl
value-rhs r k (Rule.Part a b c) E = refl
value-rhs r k (Rule.Join b c) E = refl

-- what a right-hand side means
pub meaning : (ℕ → Expression) → Rule → Hedge
meaning E x = value (rhs 0 x E)

meaning-node : (E : ℕ → Expression) (a c : ℕ) (t : Bool) → meaning E (cond t (Rule.Node a c) Rule.Empty) ≡ cond t (Hedge.node a (value (E c)) Hedge.ε) Hedge.ε
unfolding meaning rhs value
meaning-node E a c true = value-node 0 a (E c)
meaning-node E a c false = refl

meaning-part : (E : ℕ → Expression) (a b c : ℕ) (t : Bool)
    → meaning E (cond t (Rule.Part a b c) Rule.Empty) ≡ cond t (Hedge.node a (value (E b) · Hedge.hole (value (E c))) Hedge.ε) Hedge.ε
unfolding meaning rhs value
meaning-part E a b c true = value-part 0 a (E b) (E c)
meaning-part E a b c false = refl

-- a part with its hole left empty has the children around it
shut-part : (t : Bool) (a : ℕ) (f g : Hedge) → holes f ≡ 0 → holes g ≡ 0
    → (cond t (Hedge.node a (f · Hedge.hole g) Hedge.ε) Hedge.ε) ⟨ Hedge.ε ⟩ ≡ cond t (Hedge.node a (f · g) Hedge.ε) Hedge.ε
unfolding ◌⟨◌⟩ ◌·◌
shut-part true a f g p q = ap (λ h. Hedge.node a h Hedge.ε) (concat-⟨⟩ f (Hedge.hole g) Hedge.ε ∙ ap₂ ◌·◌ (closed-⟨⟩ f Hedge.ε p) (closed-⟨⟩ g Hedge.ε q))
shut-part false a f g p q = refl

module _ (v : ℕ → Bool) {R : List Rule} {rank : ℕ → ℕ} (S : Sound R rank) (W : ℕ → Variants) (made : Varied v R W) where
  abbrev EV : ℕ → Expression
  EV = expression (variant_rules W (length R))

  -- what is shown of rule r
  abbrev shown_of : ℕ → Hedge
  shown_of r = shown v (value (expression R r))

  -- a named variant's value is what its right-hand side means
  pub value-name : (r t : ℕ) → r < length R → t < 3 → value (EV (variant_name r t)) ≡ meaning EV (variant (W r) t)
  unfolding meaning
  value-name r t h l =
      ap value (unfolding-equation (variants-sound v S W made) (variant_name r t) (rw (variants_length W (length R)) (omega (arith, h, l))))
      ∙ value-rhs (variant_name r t) 0 (rule (variant_rules W (length R)) (variant_name r t)) EV
      ∙ ap (λ (x : Rule). value (rhs 0 x EV)) (variant-rule W (length R) r t h l)

  -- what variants of a rule must mean, whose value is h
  abbrev Means : Variants → Hedge → Type 0
  Means w h = (meaning EV w.whole ≡ shown v h) × (meaning EV w.shut ≡ shown v h ⟨ Hedge.ε ⟩)

  abbrev MeansOf : ℕ → Type 0
  MeansOf r = Means (W r) (value (expression R r))

  whole-value : (r : ℕ) → r < length R → MeansOf r → value (EV (whole_name r)) ≡ shown_of r
  unfolding variant
  whole-value r h m = value-name r 1 h (omega arith) ∙ m.0

  closed-shown : (r : ℕ) → r < length R → T (closed (kind_in R r)) → holes (shown_of r) ≡ 0
  closed-shown r h t = shown-closed v (value (expression R r)) (closed-value S (record { below = h; closed_kind = t }))

  -- a filling means the substitution
  filling-means : (b c t : ℕ) → b < length R → c < length R → t < 3 → MeansOf b → is_pair (variant (W c) t) ≡ false
      → meaning EV (filling (W b) (whole_name b) (variant (W c) t) (variant_name c t)) ≡ shown_of b ⟨ meaning EV (variant (W c) t) ⟩
  unfolding meaning rhs value variant kind_in
  filling-means b c t h k l m s =
      let filled : value (EV (whole_name b)) ⟨ value (EV (variant_name c t)) ⟩ ≡ shown_of b ⟨ meaning EV (variant (W c) t) ⟩ =
      ap₂ ◌⟨◌⟩ (whole-value b h m) (value-name c t k l) in
      filling-cases (λ x. meaning EV x ≡ shown_of b ⟨ meaning EV (variant (W c) t) ⟩) (W b) (whole_name b) (variant (W c) t) (variant_name c t)
      (λ e. m.0 ∙ sym (closed-⟨⟩ (shown_of b) (meaning EV (variant (W c) t)) (cut e)))
      (λ e f. filled)
      (λ e f g. filled)
      (λ f g. m.1 ∙ ap (λ (x : Rule). shown_of b ⟨ meaning EV x ⟩) (sym (nothing-else (variant (W c) t) f g s)))
    where
      ends : holed (kind_of (W b).whole) ≡ false → Closed (variant_rules W (length R)) (whole_name b)
      ends e =
          record {
            below = rw (variants_length W (length R)) (omega (arith, h));
            closed_kind = rw (variant-kind W (length R) b 1 h (omega arith)) (not-holed (W b).whole e);
          }

      cut : holed (kind_of (W b).whole) ≡ false → holes (shown_of b) ≡ 0
      cut e = rw (whole-value b h m) at (closed-value (variants-sound v S W made) (ends e))

  -- variants of a closed rule
  closed-means : (y : Rule) (h : Hedge) → holes h ≡ 0 → meaning EV y ≡ shown v h → Means (closed_variants y) h
  closed-means y h q e = (e, e ∙ sym (closed-⟨⟩ (shown v h) Hedge.ε (shown-closed v h q)))

  -- what a rule that is named has
  abbrev Lower : ℕ → Type 0
  Lower k = (k < length R) × MeansOf k

  module _ (r : ℕ) (h : r < length R) where
    means-node : (a c : ℕ) → Lower c → meaning EV (cond (v a) (Rule.Node a (whole_name c)) Rule.Empty) ≡ shown v (value (Expression.node r a (expression R c)))
    unfolding shown
    means-node a c m =
        meaning-node EV a (whole_name c) (v a) ∙ ap (λ h. cond (v a) (Hedge.node a h Hedge.ε) Hedge.ε) (whole-value c m.0 m.1) ∙ ap (shown v) (sym (value-node r a (expression R c)))

    shown-part : (a b c : ℕ) → shown v (value (Expression.part r a (expression R b) (expression R c))) ≡ cond (v a) (Hedge.node a (shown_of b · Hedge.hole (shown_of c)) Hedge.ε) Hedge.ε
    unfolding shown
    shown-part a b c =
        ap (shown v) (value-part r a (expression R b) (expression R c))
        ∙ ap (λ h. cond (v a) (Hedge.node a h Hedge.ε) Hedge.ε) (shown-concat v (value (expression R b)) (Hedge.hole (value (expression R c))))

    -- a part's children around its hole
    inner-value : (a b c : ℕ) → W r ≡ variants_from (v a) r (Rule.Part a b c) W → Lower b → Lower c → value (EV (inner_name r)) ≡ shown_of b · shown_of c
    unfolding variants_from variant meaning rhs value
    inner-value a b c e m n =
        value-name r 0 h (omega arith) ∙ ap (λ (w : Variants). meaning EV w.inner) e ∙ ap₂ ◌·◌ (whole-value b m.0 m.1) (whole-value c n.0 n.1)

    means-part : (a b c : ℕ) → W r ≡ variants_from (v a) r (Rule.Part a b c) W → Lower b → Lower c → T (closed (kind_in R b)) → T (closed (kind_in R c))
        → Means (variants_from (v a) r (Rule.Part a b c) W) (value (Expression.part r a (expression R b) (expression R c)))
    unfolding variants_from
    means-part a b c e m n s t = (
      meaning-part EV a (whole_name b) (whole_name c) (v a)
          ∙ ap₂ (λ f g. cond (v a) (Hedge.node a (f · Hedge.hole g) Hedge.ε) Hedge.ε) (whole-value b m.0 m.1) (whole-value c n.0 n.1)
          ∙ sym (shown-part a b c),
      meaning-node EV a (inner_name r) (v a)
          ∙ ap (λ f. cond (v a) (Hedge.node a f Hedge.ε) Hedge.ε) (inner-value a b c e m n)
          ∙ sym (shut-part (v a) a (shown_of b) (shown_of c) (closed-shown b m.0 s) (closed-shown c n.0 t))
          ∙ ap (λ f. f ⟨ Hedge.ε ⟩) (sym (shown-part a b c)),
    )

    means-join : (b c : ℕ) → Lower b → Lower c → T (holed (kind_in R c))
        → Means (variants_from true r (Rule.Join b c) W) (value (expression R b) ⟨ value (expression R c) ⟩)
    unfolding variants_from variant kind_in
    means-join b c m n t =
        let both = shown-⟨⟩ v (value (expression R b)) (value (expression R c)) in
        let s = all-sided v S W made c n.0 in (
          filling-means b c 1 m.0 n.0 (omega arith) m.1 (s.whole_single (holed-single (rule R c) t))
              ∙ ap (λ g. shown_of b ⟨ g ⟩) n.1.0 ∙ sym both,
          filling-means b c 2 m.0 n.0 (omega arith) m.1 (s.shut_single (holed-single (rule R c) t))
              ∙ ap (λ g. shown_of b ⟨ g ⟩) n.1.1 ∙ sym (⟨⟩-assoc (shown_of b) (shown_of c) Hedge.ε) ∙ ap (λ g. g ⟨ Hedge.ε ⟩) (sym both),
        )

    means-fill : (b c : ℕ) → Lower b → Lower c → T (tree (kind_in R c)) → holes (value (expression R b) ⟨ value (expression R c) ⟩) ≡ 0
        → Means (variants_from true r (Rule.Fill b c) W) (value (expression R b) ⟨ value (expression R c) ⟩)
    unfolding variants_from variant kind_in
    means-fill b c m n t q =
        closed-means (filling (W b) (whole_name b) (W c).whole (whole_name c)) (value (expression R b) ⟨ value (expression R c) ⟩) q
        (filling-means b c 1 m.0 n.0 (omega arith) m.1 ((all-sided v S W made c n.0).whole_single (tree-single (rule R c) t))
        ∙ ap (λ g. shown_of b ⟨ g ⟩) n.1.0 ∙ sym (shown-⟨⟩ v (value (expression R b)) (value (expression R c))))

    means-from : (x : Rule) → W r ≡ variants_from (seen_in v x) r x W → T (sorts (kind_in R) x) → (T (closed (kind_of x)) → holes (value (rhs r x (expression R))) ≡ 0)
        → ((k : ℕ) → Names x k → Lower k) → Means (variants_from (seen_in v x) r x W) (value (rhs r x (expression R)))
    unfolding sorts seen_in rhs value closed encode
    means-from Rule.Empty e s q f = unfold variants_from meaning rhs value shown in closed-means Rule.Empty Hedge.ε (q tt) refl
    means-from (Rule.Pair b c) e s q f =
        unfold variants_from meaning in
        closed-means (Rule.Pair (whole_name b) (whole_name c)) (value (expression R b) · value (expression R c)) (q tt)
        (ap₂ ◌·◌ (whole-value b (f b Names.pair_one).0 (f b Names.pair_one).1) (whole-value c (f c Names.pair_two).0 (f c Names.pair_two).1)
        ∙ sym (shown-concat v (value (expression R b)) (value (expression R c))))
    means-from (Rule.Node a c) e s q f =
        unfold variants_from in
        closed-means (cond (v a) (Rule.Node a (whole_name c)) Rule.Empty) (value (Expression.node r a (expression R c))) (q tt) (means-node a c (f c Names.node_one))
    means-from (Rule.Fill b c) e s q f =
        means-fill b c (f b Names.fill_one) (f c Names.fill_two) (T-right (holed (kind_in R b)) (tree (kind_in R c)) s) (q tt)
    means-from (Rule.Part a b c) e s q f =
        means-part a b c e (f b Names.part_one) (f c Names.part_two) (T-left (closed (kind_in R b)) (closed (kind_in R c)) s) (T-right (closed (kind_in R b)) (closed (kind_in R c)) s)
    means-from (Rule.Join b c) e s q f = means-join b c (f b Names.join_one) (f c Names.join_two) (T-right (holed (kind_in R b)) (holed (kind_in R c)) s)

  closed-rule : (r : ℕ) → r < length R → T (closed (kind_of (rule R r))) → holes (value (rhs r (rule R r) (expression R))) ≡ 0
  unfolding kind_in
  closed-rule r h t = rw (unfolding-equation S r h) at (closed-value S (record { below = h; closed_kind = t }))

  all-mean : (r : ℕ) → r < length R → MeansOf r
  all-mean =
      by_rank S MeansOf
      (λ r h f. rw (unfolding-equation S r h)
      (rw (made r h) (means-from r h (rule R r) (made r h) (S.sorted r h) (closed-rule r h) (λ k m. (named-below S r k h m, f k m)))))

  -- the value of each variant
  pub whole-means : (r : ℕ) → r < length R → value (EV (whole_name r)) ≡ shown v (value (expression R r))
  whole-means r h = whole-value r h (all-mean r h)

  pub shut-means : (r : ℕ) → r < length R → value (EV (shut_name r)) ≡ shown v (value (expression R r)) ⟨ Hedge.ε ⟩
  unfolding variant
  shut-means r h = value-name r 2 h (omega arith) ∙ (all-mean r h).1

  pub inner-means : (r a b c : ℕ) → r < length R → rule R r ≡ Rule.Part a b c → value (EV (inner_name r)) ≡ shown v (value (expression R b)) · shown v (value (expression R c))
  unfolding seen_in
  inner-means r a b c h e =
      inner-value r h a b c (rw e at (made r h)) (below b (rw e Names.part_one), all-mean b (below b (rw e Names.part_one))) (below c (rw e Names.part_two), all-mean c (below c (rw e Names.part_two)))
    where
      below : (k : ℕ) → Names (rule R r) k → k < length R
      below k m = named-below S r k h m

  -- so the whole variant of a closed rule has the forest that is visible of the rule's
  pub whole-forest : (r : ℕ) → r < length R → forest (variant_rules W (length R)) (whole_name r) ≡ visible v (forest R r)
  unfolding forest
  whole-forest r h = ap trees (whole-means r h) ∙ trees-shown v (value (expression R r))
