-- The client's copy as rules: the variants of the plan's rules, those that the whole variant of the start rule reaches, numbered. An order
-- of the rules gives one of their variants, which are a sound plan whose start rule has the visible forest. Assumes nothing.
use Prim.Native.Nat.{ℕ, ◌+◌, ◌*◌, ◌/◌, ◌%◌, ◌<◌}
use native.Mathlib.Omega.{arith}
use mathlib.Core.Bool.{Bool}
use mathlib.Core.List.{List}
use mathlib.Core.Path.{◌≡◌, ◌∙◌}
use lib.ListN.{length, get_or}
use lib.Dec.{ltb, lt→ltb}
use Rattle.rule.specs.declared.Rule.{Rule}
use Rattle.rule.specs.Sound.{rule, Sound, Closed}
use Rattle.reach.specs.Order.{Orders}
use Rattle.reach.proofs.Named.{named-every}
use Rattle.forest.specs.Forest.{forest, weigh}
use Rattle.forest.proofs.Unfold.{named-falls}
use Rattle.copy_variants.specs.declared.Variants.{Variants}
use Rattle.copy_variants.specs.Variants.{Varied, variant_rules, threefold, whole_name}
use Rattle.copy_variants.specs.Visible.{taken_out}
use Rattle.copy_variants.proofs.TakenOut.{weigh-parted}
use Rattle.copy_variants.proofs.Table.{variants_length}
use Rattle.copy_variants.proofs.Fit.{variants-sound, variants-seen, whole-ends}
use Rattle.copy_variants.proofs.Values.{whole-forest}
use Rattle.copy_passes.specs.Passes.{Placing, copy_rules, copy_start}
use Rattle.copy_passes.specs.Copied.{Copied}
use Rattle.copy_passes.proofs.Reached.{kept}

-- an order as a list
pub orders-placing : {R : List Rule} {o : List ℕ} (O : Orders R o) → Placing R (λ i. get_or o i 0) O.place
orders-placing O = record { inside = O.inside; placed = O.placed; there = O.there; once = O.once; after = O.after }

-- the place is a rank
pub placing-sound : {R : List Rule} {rank order place : ℕ → ℕ} → Sound R rank → Placing R order place → Sound R place
placing-sound {R} {rank} {order} {place} S P =
    record {
      in_range = S.in_range;
      falls = λ r h. named-every (λ y. ltb (place y) (place r)) (rule R r) (λ y m. lt→ltb (place y) (place r) (P.after r y h m));
      ranked = P.placed;
      sorted = S.sorted;
      labels = S.labels;
    }

-- one function of variants after another is one function after another
threefold-both : (f g : ℕ → ℕ) (k : ℕ) → f (g (k / 3)) ≡ k / 3 → threefold f (threefold g k) ≡ k
unfolding threefold
threefold-both f g k e =
    let d : (3 * g (k / 3) + k % 3) / 3 ≡ g (k / 3) = omega arith in
    let m : (3 * g (k / 3) + k % 3) % 3 ≡ k % 3 = omega arith in
    rw (d, m, e) (omega arith)

threefold-below : (f : ℕ → ℕ) (k n : ℕ) → f (k / 3) < n → threefold f k < 3 * n
unfolding threefold
threefold-below f k n h = omega (arith, h)

module _ (v : ℕ → Bool) {R : List Rule} {rank order place : ℕ → ℕ} (S : Sound R rank) (P : Placing R order place) (W : ℕ → Variants) (made : Varied v R W) where
  placed-sound : Sound (variant_rules W (length R)) (threefold place)
  placed-sound = variants-sound v (placing-sound S P) W made

  within : (k : ℕ) → k < length (variant_rules W (length R)) → k / 3 < length R
  within k l = let h : k < 3 * length R = rw (variants_length W (length R)) at l in omega (arith, h)

  pub variants-placing : Placing (variant_rules W (length R)) (threefold order) (threefold place)
  variants-placing =
      record {
        inside = λ i l. rw (variants_length W (length R)) (threefold-below order i (length R) (P.inside (i / 3) (within i l)));
        placed = λ r l. rw (variants_length W (length R)) (threefold-below place r (length R) (P.placed (r / 3) (within r l)));
        there = λ r l. threefold-both order place r (P.there (r / 3) (within r l));
        once = λ i l. threefold-both place order i (P.once (i / 3) (within i l));
        after = λ r k l m. named-falls placed-sound r k l m;
      }

  pub three-passes : (start : ℕ) → Closed R start → Copied v R start (copy_rules W (length R) order place start) (copy_start W (length R) order place start)
  unfolding copy_rules copy_start
  three-passes start ends =
      let K = kept placed-sound (threefold order) (threefold place) variants-placing (whole_name start) (whole-ends v (placing-sound S P) W made ends) in
      record {
        sound = K.sound;
        lower = K.lower;
        ends = K.ends;
        gives = K.same ∙ whole-forest v (placing-sound S P) W made start ends.below;
        reached = K.reached;
        seen = K.seen v (λ k l. variants-seen v (placing-sound S P) W made k (rw (variants_length W (length R)) at l));
        few = rw (variants_length W (length R)) at K.few;
      }

-- document 02, Note 8: what a copy weighs and what the nodes taken out weigh is what the plan's forest weighs
pub copied-weighs : {v : ℕ → Bool} {R C : List Rule} {start top : ℕ} → Copied v R start C top → (w : ℕ → ℕ)
    → weigh w (forest C top) + weigh w (taken_out v (forest R start)) ≡ weigh w (forest R start)
copied-weighs {v} {R} {C} {start} {top} X w = rw X.gives (weigh-parted w v (forest R start))
