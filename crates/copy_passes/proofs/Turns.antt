-- One turn of each pass, for a table in lent work that is read as a function: the variants of the rules at the places below i, the marks
-- from which the places below i go on to the last, and the rules written so far. What is read need only agree on the rules there are.
-- Assumes nothing.
use Prim.Native.Nat.{ℕ, zero, suc, ◌≤◌, ◌<◌}
use native.Mathlib.Omega.{arith}
use mathlib.Core.Bool.{Bool, true, false, cond, ◌||◌}
use mathlib.Core.List.{List, [], ◌∷◌, ◌++◌}
use mathlib.Core.Path.{◌≡◌, refl, sym, ap, ap₂, ◌∙◌}
use lib.ListN.{length}
use lib.Dec.{eqb}
use Rattle.rule.specs.declared.Rule.{Rule}
use Rattle.rule.specs.Names.{Names, pair_one, pair_two, node_one, fill_one, fill_two, part_one, part_two, join_one, join_two}
use Rattle.rule.specs.Sound.{rule}
use Rattle.reach.specs.Reaches.{any_named}
use Rattle.reach.specs.Order.{Ranged, count}
use Rattle.reach.proofs.Steps.{named-below}
use Rattle.reach.proofs.Counting.{up_to}
use Rattle.copy_variants.specs.declared.Variants.{Variants}
use Rattle.copy_variants.specs.Variants.{seen_in, variants_from, Varied}
use Rattle.copy_variants.proofs.Table.{from-same}
use Rattle.copy_passes.specs.Passes.{Placing, mark_named, marks_down, marks, number, renamed, written_up}
use Rattle.copy_passes.proofs.Marking.{marks-named}

-- the rules at the places below i have their variants
abbrev pub Filled : (ℕ → Bool) → List Rule → (ℕ → ℕ) → (ℕ → Variants) → ℕ → Type 0
Filled v R order W i = (p : ℕ) → p < i → W (order p) ≡ variants_from (seen_in v (rule R (order p))) (order p) (rule R (order p)) W

-- from these marks on, the places below i give the last marks
abbrev pub Marking : List Rule → (ℕ → ℕ) → ℕ → (ℕ → Bool) → ℕ → Type 0
Marking R order start mark i = (k : ℕ) → k < length R → marks_down R order i mark k ≡ marks R order start k

-- the marked rules at the places below i have their numbers
abbrev pub Numbered : (ℕ → ℕ) → (ℕ → Bool) → (ℕ → ℕ) → ℕ → Type 0
Numbered order mark num i = (p : ℕ) → p < i → mark (order p) ≡ true → num (order p) ≡ count (λ j. mark (order j)) p

-- a rule renamed alike where the numbers of the named rules are
pub renamed-same : (f g : ℕ → ℕ) (x : Rule) → ((k : ℕ) → Names x k → f k ≡ g k) → renamed f x ≡ renamed g x
unfolding renamed
renamed-same f g Rule.Empty h = refl
renamed-same f g (Rule.Pair b c) h = ap₂ (λ m n. Rule.Pair m n) (h b pair_one) (h c pair_two)
renamed-same f g (Rule.Node a c) h = ap (λ n. Rule.Node a n) (h c node_one)
renamed-same f g (Rule.Fill b c) h = ap₂ (λ m n. Rule.Fill m n) (h b fill_one) (h c fill_two)
renamed-same f g (Rule.Part a b c) h = ap₂ (λ m n. Rule.Part a m n) (h b part_one) (h c part_two)
renamed-same f g (Rule.Join b c) h = ap₂ (λ m n. Rule.Join m n) (h b join_one) (h c join_two)

-- one turn of the marks, where they agree
turn_agree : (t : Bool) (x : Rule) (f g : ℕ → Bool) (k : ℕ) → f k ≡ g k → (cond t (mark_named x f) f) k ≡ (cond t (mark_named x g) g) k
unfolding mark_named
turn_agree true x f g k e = ap (λ (b : Bool). b || any_named (λ j. eqb j k) x) e
turn_agree false x f g k e = e

inside : (t : Bool) (f g : ℕ → Bool) (k : ℕ) → cond t (f k) (g k) ≡ (cond t f g) k
inside true f g k = refl
inside false f g k = refl

module _ {R : List Rule} {order place : ℕ → ℕ} (ok : Ranged R) (P : Placing R order place) where
  -- a named rule stands at a lower place
  named-before : (i k : ℕ) → i < length R → Names (rule R (order i)) k → (k < length R) × (place k < i)
  named-before i k l m = (named-below R ok (order i) k m, rw (P.once i l) at (P.after (order i) k (P.inside i l) m))

  -- a rule below place i isn't the rule at place i
  apart : (i k : ℕ) → i < length R → place k < i → k ≡ order i → ⊥
  apart i k l h e = let q : place k ≡ i = ap place e ∙ P.once i l in omega (arith, h, q)

  module _ (v : ℕ → Bool) where
    pub filled_none : (W : ℕ → Variants) → Filled v R order W 0
    filled_none W p l = absurd (omega (arith, l))

    -- row `order i` is written from the rows before it, and no other row is touched
    pub filled_more : (W X : ℕ → Variants) (i : ℕ) → i < length R → Filled v R order W i
        → ((k : ℕ) → k < length R → (k ≡ order i → ⊥) → X k ≡ W k)
        → X (order i) ≡ variants_from (seen_in v (rule R (order i))) (order i) (rule R (order i)) W → Filled v R order X (suc i)
    filled_more W X i l f kept new p h =
        up_to i p h (λ p. X (order p) ≡ variants_from (seen_in v (rule R (order p))) (order p) (rule R (order p)) X)
        (λ low. let q : place (order p) ≡ p = P.once p (omega (arith, low, l)) in
        kept (order p) (P.inside p (omega (arith, low, l))) (apart i (order p) l (omega (arith, q, low))) ∙ f p low ∙ as_read p (omega (arith, low)))
        (new ∙ as_read i (omega arith))
      where
        as_read : (p : ℕ) → p ≤ i
            → variants_from (seen_in v (rule R (order p))) (order p) (rule R (order p)) W ≡ variants_from (seen_in v (rule R (order p))) (order p) (rule R (order p)) X
        as_read p b =
            from-same (seen_in v (rule R (order p))) (order p) (rule R (order p)) W X
            (λ k m. let (inside, before) = named-before p k (omega (arith, b, l)) m in sym (kept k inside (apart i k l (omega (arith, before, b)))))

    pub filled-all : (W : ℕ → Variants) → Filled v R order W (length R) → Varied v R W
    filled-all W f r h = rw (P.there r h) at (f (place r) (P.placed r h))

  -- marks that agree on the rules go on alike
  down-agree : (i : ℕ) (f g : ℕ → Bool) → i ≤ length R → ((k : ℕ) → k < length R → f k ≡ g k) → (k : ℕ) → k < length R → marks_down R order i f k ≡ marks_down R order i g k
  unfolding marks_down
  down-agree zero f g l h k b = h k b
  down-agree (suc i) f g l h k b =
      down-agree i (cond (f (order i)) (mark_named (rule R (order i)) f) f) (cond (g (order i)) (mark_named (rule R (order i)) g) g) (omega (arith, l))
      (λ j c. ap (λ (t : Bool). (cond t (mark_named (rule R (order i)) f) f) j) (h (order i) (P.inside i l)) ∙ turn_agree (g (order i)) (rule R (order i)) f g j (h j c))
      k b

  module _ (start : ℕ) where
    pub marking-first : (mark : ℕ → Bool) → ((k : ℕ) → k < length R → mark k ≡ eqb k start) → Marking R order start mark (length R)
    unfolding marks
    marking-first mark h = down-agree (length R) mark (λ k. eqb k start) (omega arith) h

    -- place i is passed: if its rule is marked, the rules that it names are marked too
    pub marking-more : (mark new : ℕ → Bool) (i : ℕ) → i < length R → Marking R order start mark (suc i)
        → ((k : ℕ) → k < length R → new k ≡ cond (mark (order i)) (mark_named (rule R (order i)) mark k) (mark k)) → Marking R order start new i
    unfolding marks_down
    marking-more mark new i l m h k b =
        down-agree i new (cond (mark (order i)) (mark_named (rule R (order i)) mark) mark) (omega (arith, l))
        (λ j c. h j c ∙ inside (mark (order i)) (mark_named (rule R (order i)) mark) mark j) k b ∙ m k b

    pub marking-last : (mark : ℕ → Bool) → Marking R order start mark 0 → (k : ℕ) → k < length R → mark k ≡ marks R order start k
    unfolding marks_down
    marking-last mark m k b = m k b

    -- the number of the rule at a place
    pub number_at : (mark : ℕ → Bool) (i : ℕ) → i < length R → number mark order place (order i) ≡ count (λ j. mark (order j)) i
    unfolding number
    number_at mark i l = ap (count (λ j. mark (order j))) (P.once i l)

    -- the rule at place i, marked, is written with the numbers that the marked rules before it have
    pub written-more : (num : ℕ → ℕ) (i : ℕ) → i < length R → marks R order start (order i) ≡ true → Numbered order (marks R order start) num i
        → written_up R order (marks R order start) (number (marks R order start) order place) (suc i)
        ≡ written_up R order (marks R order start) (number (marks R order start) order place) i ++ (renamed num (rule R (order i)) ∷ [])
    unfolding written_up number
    written-more num i l e f =
        rw e
        (ap (λ (x : Rule). written_up R order (marks R order start) (number (marks R order start) order place) i ++ (x ∷ []))
        (renamed-same (number (marks R order start) order place) num (rule R (order i))
        (λ k m. let (b, before) = named-before i k l m in sym (known k b before (marks-named R order place P start (order i) k (P.inside i l) e m)))))
      where
        known : (k : ℕ) → k < length R → place k < i → marks R order start k ≡ true → num k ≡ count (λ j. marks R order start (order j)) (place k)
        known k b before t = rw (P.there k b) at (f (place k) before (rw (P.there k b) t))

    pub written-kept : (num : ℕ → ℕ) (i : ℕ) → marks R order start (order i) ≡ false
        → written_up R order (marks R order start) num (suc i) ≡ written_up R order (marks R order start) num i
    unfolding written_up
    written-kept num i e = rw e

  -- a marked rule gets the number of rules written before it, and no other number is touched
  pub numbered_more : (mark : ℕ → Bool) (num new : ℕ → ℕ) (i : ℕ) → i < length R → Numbered order mark num i
      → ((k : ℕ) → k < length R → (k ≡ order i → ⊥) → new k ≡ num k) → (mark (order i) ≡ true → new (order i) ≡ count (λ j. mark (order j)) i)
      → Numbered order mark new (suc i)
  numbered_more mark num new i l f kept own p h =
      up_to i p h (λ p. mark (order p) ≡ true → new (order p) ≡ count (λ j. mark (order j)) p)
      (λ low e. let q : place (order p) ≡ p = P.once p (omega (arith, low, l)) in
      kept (order p) (P.inside p (omega (arith, low, l))) (apart i (order p) l (omega (arith, q, low))) ∙ f p low e)
      own
