-- The variants of a sound plan's rules are a sound plan: named variants are in range, of the right sort and of a lower rank, and their
-- labels are those of the plan that may be seen. By induction over the rules: a filling that copies a right-hand side copies all that is
-- known of it. Assumes nothing.
use Prim.Native.Nat.{ℕ, zero, suc, ◌+◌, ◌*◌, ◌/◌, ◌%◌, ◌≤◌, ◌<◌}
use native.Mathlib.Omega.{arith}
use mathlib.Core.Bool.{Bool, true, false, cond, ◌&&◌, false≢true}
use mathlib.Core.List.{List}
use mathlib.Core.Path.{◌≡◌, refl, sym, ap, ◌∙◌}
use lib.ListN.{length}
use lib.Dec.{T, ltb, ltb→lt, lt→ltb}
use Rattle.rule.specs.declared.Rule.{Rule}
use Rattle.rule.specs.Rule.{encode, every, sorts, closed, holed, tree, labelled, labelled_to}
use Rattle.rule.specs.Names.{Names}
use Rattle.rule.specs.Sound.{rule, kind_in, Sound, Closed}
use Rattle.rule.proofs.Names.{T-left, T-right, every-named}
use Rattle.reach.proofs.Named.{named-every}
use Rattle.forest.proofs.Unfold.{named-below, named-falls, by_rank}
use Rattle.copy_variants.specs.declared.Variants.{Variants}
use Rattle.copy_variants.specs.Variants.{seen_in, filling, closed_variants, variants_from, Varied, variant, variant_rules, threefold, variant_name, inner_name, whole_name, shut_name, kind_of}
use Rattle.copy_variants.proofs.Table.{threefold-name, variant-kind, variants_length, variants-rule}
use Rattle.copy_variants.proofs.Shapes.{is_pair, holds, not-holed, not-closed, tree-closed, holed-single, filling-cases}

both : (a b : Bool) → T a → T b → T (a && b)
both true b s t = t
both false b s t = s

-- a right-hand side that names variants in range, below a rank and of the right sorts, with a label that may be seen
pub record Fit (v : ℕ → Bool) (m : ℕ) (rank kind : ℕ → ℕ) (l : ℕ) (x : Rule) : Type 0 where
  pub inside : T (every (λ k. ltb k m) x)
  pub lower : T (every (λ k. ltb (rank k) l) x)
  pub sorted : T (sorts kind x)
  pub label : T (labelled x)
  pub seen : T (seen_in v x)

-- the name of a variant in range and of a lower rank
record Known (m : ℕ) (rank : ℕ → ℕ) (l k : ℕ) : Type 0 where
  low : k < m
  lesser : rank k < l

-- two of them
module _ {m : ℕ} {rank : ℕ → ℕ} {l b c : ℕ} (p : Known m rank l b) (q : Known m rank l c) where
  two-inside : T (ltb b m && ltb c m)
  two-inside = both (ltb b m) (ltb c m) (lt→ltb b m p.low) (lt→ltb c m q.low)

  two-lower : T (ltb (rank b) l && ltb (rank c) l)
  two-lower = both (ltb (rank b) l) (ltb (rank c) l) (lt→ltb (rank b) l p.lesser) (lt→ltb (rank c) l q.lesser)

module _ {v : ℕ → Bool} {m : ℕ} {rank kind : ℕ → ℕ} where
  -- below a higher rank too
  fit-higher : {l h : ℕ} {x : Rule} → l ≤ h → Fit v m rank kind l x → Fit v m rank kind h x
  fit-higher {l} {h} {x} le f =
      record {
        inside = f.inside;
        lower = named-every (λ k. ltb (rank k) h) x (λ k n. let a : rank k < l = ltb→lt (rank k) l (every-named (λ k. ltb (rank k) l) n f.lower) in lt→ltb (rank k) h (omega (arith, a, le)));
        sorted = f.sorted;
        label = f.label;
        seen = f.seen;
      }

  fit-empty : {l : ℕ} → Fit v m rank kind l Rule.Empty
  unfolding every sorts labelled labelled_to seen_in
  fit-empty = record { inside = tt; lower = tt; sorted = tt; label = tt; seen = tt }

  module _ {l b c : ℕ} (p : Known m rank l b) (q : Known m rank l c) where
    fit-pair : T (closed (kind b)) → T (closed (kind c)) → Fit v m rank kind l (Rule.Pair b c)
    unfolding every sorts labelled labelled_to seen_in
    fit-pair s t = record { inside = two-inside p q; lower = two-lower p q; sorted = both (closed (kind b)) (closed (kind c)) s t; label = tt; seen = tt }

    fit-fill : T (holed (kind b)) → T (tree (kind c)) → Fit v m rank kind l (Rule.Fill b c)
    unfolding every sorts labelled labelled_to seen_in
    fit-fill s t = record { inside = two-inside p q; lower = two-lower p q; sorted = both (holed (kind b)) (tree (kind c)) s t; label = tt; seen = tt }

    fit-join : T (holed (kind b)) → T (holed (kind c)) → Fit v m rank kind l (Rule.Join b c)
    unfolding every sorts labelled labelled_to seen_in
    fit-join s t = record { inside = two-inside p q; lower = two-lower p q; sorted = both (holed (kind b)) (holed (kind c)) s t; label = tt; seen = tt }

    fit-part : {a : ℕ} → T (closed (kind b)) → T (closed (kind c)) → T (labelled (Rule.Part a b c)) → T (v a) → Fit v m rank kind l (Rule.Part a b c)
    unfolding every sorts seen_in
    fit-part s t y z = record { inside = two-inside p q; lower = two-lower p q; sorted = both (closed (kind b)) (closed (kind c)) s t; label = y; seen = z }

  fit-node : {l a c : ℕ} → Known m rank l c → T (closed (kind c)) → T (labelled (Rule.Node a c)) → T (v a) → Fit v m rank kind l (Rule.Node a c)
  unfolding every sorts seen_in
  fit-node {l} {a} {c} q t y z = record { inside = lt→ltb c m q.low; lower = lt→ltb (rank c) l q.lesser; sorted = t; label = y; seen = z }

  -- a rule whose label may be seen, or nothing
  fit-seen : {l : ℕ} {x : Rule} (t : Bool) → (t ≡ true → Fit v m rank kind l x) → Fit v m rank kind l (cond t x Rule.Empty)
  fit-seen true f = f refl
  fit-seen false f = fit-empty

  fit-filling : {l : ℕ} (w : Variants) (b : ℕ) (z : Rule) (c : ℕ) → Fit v m rank kind l w.whole → Fit v m rank kind l w.shut
      → kind b ≡ kind_of w.whole → kind c ≡ kind_of z → Known m rank l b → Known m rank l c → Fit v m rank kind l (filling w b z c)
  fit-filling {l} w b z c f g e d p q =
      filling-cases (Fit v m rank kind l) w b z c (λ s. f)
      (λ s t. fit-join p q (rw e (holds s)) (rw d (holds t)))
      (λ s t u. fit-fill p q (rw e (holds s)) (rw d (holds u)))
      (λ t u. g)

-- what holds of 0, 1 and 2 holds of each below 3
one_of_two : (P : ℕ → Type 0) → P 0 → P 1 → (t : ℕ) → t < 2 → P t
one_of_two P a b zero l = a
one_of_two P a b (suc t) l = let e : t ≡ 0 = omega (arith, l) in rw e b

one_of_three : (P : ℕ → Type 0) → P 0 → P 1 → P 2 → (t : ℕ) → t < 3 → P t
one_of_three P a b c zero l = a
one_of_three P a b c (suc t) l = one_of_two (λ s. P (suc s)) b c t (omega (arith, l))

-- what is known of the variants w of a rule x of number r
pub record Sided (v : ℕ → Bool) (m : ℕ) (rank kind : ℕ → ℕ) (r : ℕ) (x : Rule) (w : Variants) : Type 0 where
  pub inner_fit : Fit v m (threefold rank) kind (3 * rank r) w.inner
  pub whole_fit : Fit v m (threefold rank) kind (3 * rank r + 1) w.whole
  pub shut_fit : Fit v m (threefold rank) kind (3 * rank r + 2) w.shut
  pub inner_closed : T (closed (kind_of w.inner))
  pub whole_closed : T (closed (kind_of x)) → T (closed (kind_of w.whole))
  pub shut_closed : T (closed (kind_of w.shut))
  pub whole_single : is_pair x ≡ false → is_pair w.whole ≡ false
  pub shut_single : is_pair x ≡ false → is_pair w.shut ≡ false

-- a rule whose label may be seen, or nothing, is no pair and closed
seen-single : (t : Bool) (x : Rule) → is_pair x ≡ false → is_pair (cond t x Rule.Empty) ≡ false
unfolding is_pair
seen-single true x e = e
seen-single false x e = refl

seen-closed : (t : Bool) (x : Rule) → T (closed (kind_of x)) → T (closed (kind_of (cond t x Rule.Empty)))
unfolding closed encode
seen-closed true x e = e
seen-closed false x e = tt

filling-single : (w : Variants) (b : ℕ) (z : Rule) (c : ℕ) → is_pair w.whole ≡ false → is_pair w.shut ≡ false → is_pair (filling w b z c) ≡ false
unfolding is_pair
filling-single w b z c e f = filling-cases (λ x. is_pair x ≡ false) w b z c (λ s. e) (λ s t. refl) (λ s t u. refl) (λ t u. f)

filling-closed : (w : Variants) (b : ℕ) (z : Rule) (c : ℕ) → T (closed (kind_of z)) → T (closed (kind_of w.shut)) → T (closed (kind_of (filling w b z c)))
unfolding closed encode
filling-closed w b z c t f =
    filling-cases (λ x. T (closed (kind_of x))) w b z c (λ s. not-holed w.whole s) (λ s u. absurd (clash (sym u ∙ not-closed z t))) (λ s u k. tt) (λ u k. f)
  where
    clash : true ≡ false → ⊥
    clash e = false≢true (sym e)

module _ (v : ℕ → Bool) {R : List Rule} {rank : ℕ → ℕ} (S : Sound R rank) (W : ℕ → Variants) where
  abbrev kind_v : ℕ → ℕ
  kind_v = kind_in (variant_rules W (length R))

  abbrev FitV : ℕ → Rule → Type 0
  FitV = Fit v (3 * length R) (threefold rank) kind_v

  abbrev KnownV : ℕ → ℕ → Type 0
  KnownV = Known (3 * length R) (threefold rank)

  abbrev SidedV : ℕ → Rule → Variants → Type 0
  SidedV = Sided v (3 * length R) rank kind_v

  -- the variants of a lower rule are known
  lower-known : (r b t : ℕ) → t < 3 → b < length R → rank b < rank r → KnownV (3 * rank r) (variant_name b t)
  lower-known r b t l h f = record { low = omega (arith, l, h); lesser = rw (threefold-name rank b t l) (omega (arith, l, f)) }

  higher-known : {l h k : ℕ} → l ≤ h → KnownV l k → KnownV h k
  higher-known le q = record { low = q.low; lesser = omega (arith, le, q.lesser) }

  -- a closed rule's whole variant is closed
  name-closed : (b : ℕ) → b < length R → SidedV b (rule R b) (W b) → T (closed (kind_in R b)) → T (closed (kind_v (whole_name b)))
  unfolding kind_in variant
  name-closed b h s t = rw (variant-kind W (length R) b 1 h (omega arith)) (s.whole_closed t)

  closed-sided : (r : ℕ) (x y : Rule) → FitV (3 * rank r) y → T (closed (kind_of y)) → (is_pair x ≡ false → is_pair y ≡ false) → SidedV r x (closed_variants y)
  unfolding closed encode
  closed-sided r x y f t s =
      record {
        inner_fit = fit-empty;
        whole_fit = fit-higher (omega arith) f;
        shut_fit = fit-higher (omega arith) f;
        inner_closed = tt;
        whole_closed = λ u. t;
        shut_closed = t;
        whole_single = s;
        shut_single = s;
      }

  -- what the rules that x names must have
  abbrev Below : ℕ → ℕ → Type 0
  Below r k = (k < length R) × (rank k < rank r) × SidedV k (rule R k) (W k)

  module _ (r : ℕ) (h : r < length R) where
    known : (b t : ℕ) → t < 3 → Below r b → KnownV (3 * rank r) (variant_name b t)
    known b t l s = lower-known r b t l s.0 s.1

    sided-pair : (b c : ℕ) → Below r b → Below r c → T (closed (kind_in R b)) → T (closed (kind_in R c))
        → SidedV r (Rule.Pair b c) (closed_variants (Rule.Pair (whole_name b) (whole_name c)))
    unfolding is_pair closed encode
    sided-pair b c s t p q =
        closed-sided r (Rule.Pair b c) (Rule.Pair (whole_name b) (whole_name c))
        (fit-pair (known b 1 (omega arith) s) (known c 1 (omega arith) t) (name-closed b s.0 s.2 p) (name-closed c t.0 t.2 q))
        tt (λ e. e)

    sided-node : (a c : ℕ) → Below r c → T (closed (kind_in R c)) → T (labelled (Rule.Node a c))
        → SidedV r (Rule.Node a c) (closed_variants (cond (v a) (Rule.Node a (whole_name c)) Rule.Empty))
    unfolding is_pair closed encode labelled labelled_to
    sided-node a c s p y =
        closed-sided r (Rule.Node a c) (cond (v a) (Rule.Node a (whole_name c)) Rule.Empty)
        (fit-seen (v a) (λ e. fit-node (known c 1 (omega arith) s) (name-closed c s.0 s.2 p) y (holds e)))
        (seen-closed (v a) (Rule.Node a (whole_name c)) tt)
        (λ e. seen-single (v a) (Rule.Node a (whole_name c)) refl)

    -- a filling's right-hand side: of b, with c's variant t
    filling-fit : (b c t : ℕ) → t < 3 → Below r b → Below r c → FitV (3 * rank r) (filling (W b) (whole_name b) (variant (W c) t) (variant_name c t))
    unfolding variant
    filling-fit b c t l p q =
        fit-filling (W b) (whole_name b) (variant (W c) t) (variant_name c t)
        (fit-higher (let f = p.1 in omega (arith, f)) p.2.whole_fit)
        (fit-higher (let f = p.1 in omega (arith, f)) p.2.shut_fit)
        (variant-kind W (length R) b 1 p.0 (omega arith)) (variant-kind W (length R) c t q.0 l)
        (known b 1 (omega arith) p) (known c t l q)

    sided-fill : (b c : ℕ) → Below r b → Below r c → T (holed (kind_in R b)) → T (tree (kind_in R c))
        → SidedV r (Rule.Fill b c) (closed_variants (filling (W b) (whole_name b) (W c).whole (whole_name c)))
    unfolding kind_in variant
    sided-fill b c p q s t =
        closed-sided r (Rule.Fill b c) (filling (W b) (whole_name b) (W c).whole (whole_name c)) (filling-fit b c 1 (omega arith) p q)
        (filling-closed (W b) (whole_name b) (W c).whole (whole_name c) (q.2.whole_closed (tree-closed (rule R c) t)) p.2.shut_closed)
        (λ e. filling-single (W b) (whole_name b) (W c).whole (whole_name c) (p.2.whole_single (holed-single (rule R b) s)) (p.2.shut_single (holed-single (rule R b) s)))

    -- the inner variant of a part is known to its shut one
    inner-known : KnownV (3 * rank r + 2) (inner_name r)
    inner-known = record { low = omega (arith, h); lesser = rw (threefold-name rank r 0 (omega arith)) (omega arith) }

    sided-part : (a b c : ℕ) → W r ≡ variants_from (v a) r (Rule.Part a b c) W → Below r b → Below r c
        → T (closed (kind_in R b)) → T (closed (kind_in R c)) → T (labelled (Rule.Part a b c)) → SidedV r (Rule.Part a b c) (variants_from (v a) r (Rule.Part a b c) W)
    unfolding variants_from is_pair closed encode labelled labelled_to variant
    sided-part a b c e s t p q y =
        let inner : FitV (3 * rank r) (Rule.Pair (whole_name b) (whole_name c)) =
        fit-pair (known b 1 (omega arith) s) (known c 1 (omega arith) t) (name-closed b s.0 s.2 p) (name-closed c t.0 t.2 q) in
        let own : kind_v (inner_name r) ≡ 1 = variant-kind W (length R) r 0 h (omega arith) ∙ ap (λ (u : Variants). kind_of u.inner) e in
        record {
          inner_fit = inner;
          whole_fit =
              fit-seen (v a)
              (λ u. fit-part (higher-known (omega arith) (known b 1 (omega arith) s)) (higher-known (omega arith) (known c 1 (omega arith) t))
              (name-closed b s.0 s.2 p) (name-closed c t.0 t.2 q) y (holds u));
          shut_fit = fit-seen (v a) (λ u. fit-node inner-known (rw own tt) y (holds u));
          inner_closed = tt;
          whole_closed = λ u. absurd u;
          shut_closed = seen-closed (v a) (Rule.Node a (inner_name r)) tt;
          whole_single = λ u. seen-single (v a) (Rule.Part a (whole_name b) (whole_name c)) refl;
          shut_single = λ u. seen-single (v a) (Rule.Node a (inner_name r)) refl;
        }

    sided-join : (b c : ℕ) → Below r b → Below r c → T (holed (kind_in R b)) → T (holed (kind_in R c))
        → SidedV r (Rule.Join b c) (variants_from true r (Rule.Join b c) W)
    unfolding variants_from kind_in variant is_pair closed encode
    sided-join b c p q s t =
        let single = holed-single (rule R b) s in
        record {
          inner_fit = fit-empty;
          whole_fit = fit-higher (omega arith) (filling-fit b c 1 (omega arith) p q);
          shut_fit = fit-higher (omega arith) (filling-fit b c 2 (omega arith) p q);
          inner_closed = tt;
          whole_closed = λ u. absurd u;
          shut_closed = filling-closed (W b) (whole_name b) (W c).shut (shut_name c) q.2.shut_closed p.2.shut_closed;
          whole_single = λ u. filling-single (W b) (whole_name b) (W c).whole (whole_name c) (p.2.whole_single single) (p.2.shut_single single);
          shut_single = λ u. filling-single (W b) (whole_name b) (W c).shut (shut_name c) (p.2.whole_single single) (p.2.shut_single single);
        }

    sided-from : (x : Rule) → W r ≡ variants_from (seen_in v x) r x W → T (sorts (kind_in R) x) → T (labelled x) → ((k : ℕ) → Names x k → Below r k)
        → SidedV r x (variants_from (seen_in v x) r x W)
    unfolding sorts seen_in variants_from
    sided-from Rule.Empty e s y f =
        closed-sided r Rule.Empty Rule.Empty (fit-empty) (unfold closed encode in tt) (λ u. u)
    sided-from (Rule.Pair b c) e s y f =
        sided-pair b c (f b Names.pair_one) (f c Names.pair_two) (T-left (closed (kind_in R b)) (closed (kind_in R c)) s) (T-right (closed (kind_in R b)) (closed (kind_in R c)) s)
    sided-from (Rule.Node a c) e s y f = sided-node a c (f c Names.node_one) s y
    sided-from (Rule.Fill b c) e s y f =
        sided-fill b c (f b Names.fill_one) (f c Names.fill_two) (T-left (holed (kind_in R b)) (tree (kind_in R c)) s) (T-right (holed (kind_in R b)) (tree (kind_in R c)) s)
    sided-from (Rule.Part a b c) e s y f =
        sided-part a b c e (f b Names.part_one) (f c Names.part_two)
        (T-left (closed (kind_in R b)) (closed (kind_in R c)) s) (T-right (closed (kind_in R b)) (closed (kind_in R c)) s) y
    sided-from (Rule.Join b c) e s y f =
        sided-join b c (f b Names.join_one) (f c Names.join_two) (T-left (holed (kind_in R b)) (holed (kind_in R c)) s) (T-right (holed (kind_in R b)) (holed (kind_in R c)) s)

  module _ (made : Varied v R W) where
    pub all-sided : (r : ℕ) → r < length R → SidedV r (rule R r) (W r)
    all-sided =
        by_rank S (λ r. SidedV r (rule R r) (W r))
        (λ r h f. rw (made r h) (sided-from r h (rule R r) (made r h) (S.sorted r h) (S.labels r h) (λ k m. (named-below S r k h m, named-falls S r k h m, f k m))))

    -- each variant by its number
    pub variant-fit : (r t : ℕ) → r < length R → t < 3 → FitV (3 * rank r + t) (variant (W r) t)
    unfolding variant
    variant-fit r t h l =
        let s = all-sided r h in
        one_of_three (λ t. FitV (3 * rank r + t) (variant (W r) t)) (fit-higher (omega arith) s.inner_fit) s.whole_fit s.shut_fit t l

    pub rule-fit : (k : ℕ) → k < 3 * length R → FitV (threefold rank k) (rule (variant_rules W (length R)) k)
    unfolding threefold
    rule-fit k l = rw (variants-rule W (length R) k l) (variant-fit (k / 3) (k % 3) (omega (arith, l)) (omega arith))

    in_variants : (k : ℕ) → k < length (variant_rules W (length R)) → k < 3 * length R
    in_variants k l = rw (variants_length W (length R)) at l

    rank-in : (k : ℕ) → k < 3 * length R → threefold rank k < 3 * length R
    unfolding threefold
    rank-in k l = let h : rank (k / 3) < length R = S.ranked (k / 3) (omega (arith, l)) in omega (arith, h)

    -- the variants are a sound plan
    pub variants-sound : Sound (variant_rules W (length R)) (threefold rank)
    variants-sound =
        record {
          in_range = λ k l. rw (variants_length W (length R)) (rule-fit k (in_variants k l)).inside;
          falls = λ k l. (rule-fit k (in_variants k l)).lower;
          ranked = λ k l. rw (variants_length W (length R)) (rank-in k (in_variants k l));
          sorted = λ k l. (rule-fit k (in_variants k l)).sorted;
          labels = λ k l. (rule-fit k (in_variants k l)).label;
        }

    -- their labels may be seen
    pub variants-seen : (k : ℕ) → k < 3 * length R → T (seen_in v (rule (variant_rules W (length R)) k))
    variants-seen k l = (rule-fit k l).seen

    -- the whole variant of a closed rule, and the shut variant of any, is closed
    pub whole-ends : {r : ℕ} → Closed R r → Closed (variant_rules W (length R)) (whole_name r)
    unfolding kind_in variant
    whole-ends {r} c =
        let b : r < length R = c.below in
        record {
          below = rw (variants_length W (length R)) (omega (arith, b));
          closed_kind = rw (variant-kind W (length R) r 1 b (omega arith)) ((all-sided r b).whole_closed c.closed_kind);
        }
