-- The rules that a closed start rule reaches, marked, numbered and written, are a sound plan with the same forest, in which every rule is
-- the start rule or reached from it and names lower ones only. A marked rule and the rule written for it differ in names alone, and the
-- rules that it names are marked and stand before it. Assumes nothing.
use Prim.Native.Nat.{ℕ, ◌≤◌, ◌<◌}
use mathlib.Core.Bool.{Bool, true}
use mathlib.Core.List.{List}
use mathlib.Core.Logic.{◌⊎◌, inl, inr, ⊎_elim}
use mathlib.Core.Path.{◌≡◌, sym, ap, ◌∙◌}
use lib.ListN.{length}
use lib.Dec.{T, ltb, lt→ltb}
use Rattle.rule.specs.declared.Rule.{Rule}
use Rattle.rule.specs.Rule.{every, sorts, labelled}
use Rattle.rule.specs.Names.{Names}
use Rattle.rule.specs.Sound.{rule, kind_in, Sound, Closed}
use Rattle.reach.specs.Reaches.{Reaches, named, through}
use Rattle.reach.specs.Order.{Lower, count}
use Rattle.reach.proofs.Named.{named-every, names-below}
use Rattle.reach.proofs.Counting.{count_most}
use Rattle.reach.proofs.Orders.{lower-ranged}
use Rattle.forest.specs.Expression.{rhs, expression}
use Rattle.forest.specs.Algebra.{value}
use Rattle.forest.specs.Forest.{trees, forest}
use Rattle.forest.proofs.Unfold.{named-below, by_rank, unfolding-equation}
use Rattle.copy_variants.specs.Variants.{kind_of, seen_in}
use Rattle.copy_passes.specs.Passes.{Placing, marks, number, renamed, reached_number, reached_rules}
use Rattle.copy_passes.proofs.Marking.{marks-start, marks-named, marks-reached}
use Rattle.copy_passes.proofs.Numbering.{count_past, count-find, written-length, written-rule}
use Rattle.copy_passes.proofs.Renaming.{renamed-kind, renamed-every, renamed-labelled, renamed-seen, renamed-names, renamed-sorts, renamed-value}

-- rules C with start rule top are the rules of R that start reaches, in other numbers
pub record Kept (R : List Rule) (start : ℕ) (C : List Rule) (top : ℕ) : Type 0 where
  pub sound : Sound C (λ r. r)
  pub lower : Lower C
  pub ends : Closed C top
  pub same : forest C top ≡ forest R start
  pub reached : (j : ℕ) → j < length C → (j ≡ top) ⊎ Reaches C top j
  pub seen : (v : ℕ → Bool) → ((k : ℕ) → k < length R → T (seen_in v (rule R k))) → (j : ℕ) → j < length C → T (seen_in v (rule C j))
  pub few : length C ≤ length R

module _ {R : List Rule} {rank : ℕ → ℕ} (S : Sound R rank) (order place : ℕ → ℕ) (P : Placing R order place) (start : ℕ) (ends : Closed R start) where
  abbrev mark : ℕ → Bool
  mark = marks R order start

  abbrev num : ℕ → ℕ
  num = reached_number R order place start

  abbrev new : List Rule
  new = reached_rules R order place start

  abbrev at_place : ℕ → Bool
  at_place i = mark (order i)

  new-length : length new ≡ count at_place (length R)
  unfolding reached_rules
  new-length = written-length R order mark num (length R)

  new-few : length new ≤ length R
  new-few = rw new-length (count_most (length R) at_place)

  -- a marked rule's number is in range, and its rule there
  at-place : (k : ℕ) → k < length R → mark k ≡ true → at_place (place k) ≡ true
  at-place k h e = rw (P.there k h) e

  new-below : (k : ℕ) → k < length R → mark k ≡ true → num k < length new
  unfolding reached_number number
  new-below k h e = rw new-length (count_past at_place (place k) (length R) (P.placed k h) (at-place k h e))

  new-rule : (k : ℕ) → k < length R → mark k ≡ true → rule new (num k) ≡ renamed num (rule R k)
  unfolding reached_rules reached_number number
  new-rule k h e = written-rule R order mark num (length R) (place k) (P.placed k h) (at-place k h e) ∙ ap (λ (r : ℕ). renamed num (rule R r)) (P.there k h)

  -- the number of a marked rule that a marked rule names is lower
  named-lower : (r k : ℕ) → r < length R → mark r ≡ true → Names (rule R r) k → num k < num r
  unfolding reached_number number
  named-lower r k h e m = count_past at_place (place k) (place r) (P.after r k h m) (at-place k (named-below S r k h m) (marks-named R order place P start r k h e m))

  at-number : {j : ℕ} (i : ℕ) → i < length R → count at_place i ≡ j → num (order i) ≡ j
  unfolding reached_number number
  at-number i h q = ap (count at_place) (P.once i h) ∙ q

  -- what holds at the numbers of all marked rules holds of all the new rules
  by_number : (Q : ℕ → Type 0) → ((k : ℕ) → k < length R → mark k ≡ true → Q (num k)) → (j : ℕ) → j < length new → Q j
  by_number Q f j l =
      let (i, h, e, q) = count-find at_place (length R) j (rw new-length at l) in
      let p : num (order i) ≡ j = at-number i h q in
      rw p at (f (order i) (P.inside i h) e)

  new-kind : (k : ℕ) → k < length R → mark k ≡ true → kind_in new (num k) ≡ kind_in R k
  unfolding kind_in
  new-kind k h e = ap (λ (y : Rule). kind_of y) (new-rule k h e) ∙ renamed-kind num (rule R k)

  -- the rules that a marked rule names
  named-marked : (r k : ℕ) → r < length R → mark r ≡ true → Names (rule R r) k → mark k ≡ true
  named-marked r k h e m = marks-named R order place P start r k h e m

  new-lower : Lower new
  new-lower =
      by_number (λ j. T (every (λ y. ltb y j) (rule new j)))
      (λ k h e. rw (new-rule k h e, renamed-every num (λ y. ltb y (num k)) (rule R k))
      (named-every (λ y. ltb (num y) (num k)) (rule R k) (λ y m. lt→ltb (num y) (num k) (named-lower k y h e m))))

  new-sorted : (j : ℕ) → j < length new → T (sorts (kind_in new) (rule new j))
  new-sorted =
      by_number (λ j. T (sorts (kind_in new) (rule new j)))
      (λ k h e. rw (new-rule k h e, renamed-sorts num (kind_in new) (kind_in R) (rule R k) (λ j m. new-kind j (named-below S k j h m) (named-marked k j h e m)))
      (S.sorted k h))

  new-labels : (j : ℕ) → j < length new → T (labelled (rule new j))
  new-labels = by_number (λ j. T (labelled (rule new j))) (λ k h e. rw (new-rule k h e, renamed-labelled num (rule R k)) (S.labels k h))

  new-sound : Sound new (λ r. r)
  new-sound = record { in_range = lower-ranged new new-lower; falls = new-lower; ranked = λ r l. l; sorted = new-sorted; labels = new-labels }

  -- a marked rule's value is that of the rule written for it
  new-value : (k : ℕ) → k < length R → mark k ≡ true → value (expression new (num k)) ≡ value (expression R k)
  new-value =
      by_rank S (λ k. mark k ≡ true → value (expression new (num k)) ≡ value (expression R k))
      (λ k h f e.
      ap value (unfolding-equation new-sound (num k) (new-below k h e))
      ∙ ap (λ (y : Rule). value (rhs (num k) y (expression new))) (new-rule k h e)
      ∙ renamed-value num (expression new) (expression R) (num k) k (rule R k) (λ j m. f j m (named-marked k j h e m))
      ∙ ap value (sym (unfolding-equation S k h)))

  start-marked : mark start ≡ true
  start-marked = marks-start R order place P start

  new-forest : forest new (num start) ≡ forest R start
  unfolding forest
  new-forest = ap trees (new-value start ends.below start-marked)

  new-ends : Closed new (num start)
  new-ends = record { below = new-below start ends.below start-marked; closed_kind = rw (new-kind start ends.below start-marked) ends.closed_kind }

  new-names : (a b : ℕ) → mark a ≡ true → Names (rule R a) b → Names (rule new (num a)) (num b)
  new-names a b e m = rw (new-rule a (names-below R a b m) e) (renamed-names num m)

  -- what a marked rule reaches, the rule written for it reaches
  new-reaches : {a b : ℕ} → Reaches R a b → mark a ≡ true → Reaches new (num a) (num b)
  new-reaches {a} {b} (named m) e = named (new-names a b e m)
  new-reaches {a} {b} (through {x} m s) e = through (new-names a x e m) (new-reaches s (named-marked a x (names-below R a x m) e m))

  new-reached : (j : ℕ) → j < length new → (j ≡ num start) ⊎ Reaches new (num start) j
  new-reached =
      by_number (λ j. (j ≡ num start) ⊎ Reaches new (num start) j)
      (λ k h e. ⊎_elim (λ q. inl (ap num q)) (λ s. inr (new-reaches s start-marked)) (marks-reached R order place P start k e))

  new-seen : (v : ℕ → Bool) → ((k : ℕ) → k < length R → T (seen_in v (rule R k))) → (j : ℕ) → j < length new → T (seen_in v (rule new j))
  new-seen v f = by_number (λ j. T (seen_in v (rule new j))) (λ k h e. rw (new-rule k h e, renamed-seen num v (rule R k)) (f k h))

  pub kept : Kept R start new (num start)
  kept =
      record {
        sound = new-sound;
        lower = new-lower;
        ends = new-ends;
        same = new-forest;
        reached = new-reached;
        seen = new-seen;
        few = new-few;
      }
