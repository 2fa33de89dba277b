-- What a mark that is written does to the marks, and what stays: the variants, their order and what may be read. Assumes nothing.
use Prim.Native.Nat.{ℕ, zero, suc, ◌+◌, ◌-◌, ◌*◌, ◌/◌, ◌%◌, ◌≤◌, ◌<◌}
use native.Mathlib.Omega.{arith}
use mathlib.Core.Bool.{Bool, true, false, ◌||◌, or-true, or-false, or_assoc}
use mathlib.Core.Logic.{inr}
use mathlib.Core.Path.{◌≡◌, refl, sym, ap, ap₂, ◌∙◌}
use mathlib.Core.List.{List, ◌∷◌, ◌++◌}
use lib.ListN.{length, get_or, take, drop}
use lib.Dec.{ltb, eqb}
use borrow.Author.Tests.{eqb-true, eqb-false, eq-eqb, ne_eqb}
use borrow.Table.Steps.{cases}
use Rattle.words.specs.Number.{number}
use Rattle.words.specs.Put.{put}
use Rattle.words.proofs.Laws.{put_same, put_other}
use Rattle.words.proofs.Within.{within_none, within_both, within_wider, within-number-put, within-cleared, cleared-number}
use Rattle.words.specs.Front.{cleared}
use Rattle.words.proofs.Words.{word_at}
use Rattle.words.proofs.Parts.{part_length, within-part, words-part}
use Rattle.rule.specs.declared.Rule.{Rule}
use Rattle.rule.specs.Names.{Names, pair_one, pair_two, fill_one, fill_two, part_one, part_two, join_one, join_two}
use Rattle.rule.specs.Sound.{rule}
use Rattle.reach.specs.Reaches.{any_named}
use Rattle.reach.proofs.Steps.{named-below}
use Rattle.work_rows.specs.Rows.{rule_in, first_rules, Within}
use Rattle.work_rows.specs.Order.{order_end, order_in}
use Rattle.work_rows.proofs.Rows.{within-rule}
use Rattle.work_rows.proofs.Kept.{first-same}
use Rattle.work_rows.proofs.Order.{order-kept}
use Rattle.count_passes.proofs.Ordered.{place-below}
use Rattle.copy_variants.specs.declared.Variants.{Variants}
use Rattle.copy_variants.specs.Variants.{variant, rules_from, variant_rules, threefold}
use Rattle.copy_variants.proofs.Table.{variants_length, variants-rule}
use Rattle.copy_passes.specs.Passes.{mark_named}
use Rattle.copy_rows.specs.Table.{variants_at, Readable}
use Rattle.copy_rows.proofs.Varying.{ready-readable}
use Rattle.copy_rows.proofs.Kept.{variants-past}
use Rattle.copy_marks.specs.Marks.{mark_at, marks_end, mark_in, marked, number_in, variant_in, variants_in, places_in}
use Rattle.copy_marks.specs.Marks.{Markable, OnlyMarks, Nameable, MarkedOne, MarkedNamed, Passed, Unmarked, MarkedAll, Marked}

-- the place of a mark
pub mark-read : {v at : ℕ} (s : List ℕ) (n k : ℕ) → v ≡ number 2 s at → at ≡ mark_at n k → v ≡ mark_in s n k
unfolding mark_in
mark-read s n k e q = e ∙ ap (number 2 s) q

pub mark-put : {at : ℕ} {t : List ℕ} (s : List ℕ) (n k v : ℕ) → t ≡ put 2 s at v → at ≡ mark_at n k → t ≡ put 2 s (mark_at n k) v
mark-put s n k v e q = e ∙ ap (λ (i : ℕ). put 2 s i v) q

-- the mark that is written, and the others
pub put-own : (n k v : ℕ) (s : List ℕ) → mark_at n k + 2 ≤ length s → v < 65536 → mark_in (put 2 s (mark_at n k) v) n k ≡ v
unfolding mark_in
put-own n k v s fits small = put_same 2 s (mark_at n k) v fits (omega (arith, small))

pub put-others : (n k v j : ℕ) (s : List ℕ) → (j ≡ k → ⊥) → mark_in (put 2 s (mark_at n k) v) n j ≡ mark_in s n j
unfolding mark_in
put-others n k v j s ne = put_other 2 2 s (mark_at n k) v (mark_at n j) (λ h. omega arith)

pub put_only : (n k v : ℕ) (s : List ℕ) → k < 3 * n → OnlyMarks n s (put 2 s (mark_at n k) v)
put_only n k v s below = within-number-put 2 s (mark_at n k) v (order_end n) (marks_end n) (omega arith) (omega arith)

one-mark : (n k j : ℕ) (s : List ℕ) → mark_at n k + 2 ≤ length s → marked (put 2 s (mark_at n k) 1) n j ≡ (marked s n j || eqb k j)
unfolding marked
one-mark n k j s fits =
    cases (eqb k j)
    (λ e. let q : k ≡ j = eqb-true k j e in rw (e, or-true) (ap (ltb 0) (ap (mark_in (put 2 s (mark_at n k) 1) n) (sym q) ∙ put-own n k 1 s fits (omega arith))))
    (λ e. rw (e, or-false) (ap (ltb 0) (put-others n k 1 j s (λ q. eqb-false k j e (sym q)))))

pub marked-one : {n k : ℕ} {s t : List ℕ} → mark_at n k + 2 ≤ length s → k < 3 * n → t ≡ put 2 s (mark_at n k) 1 → MarkedOne n k s t
marked-one {n} {k} {s} fits below e = rw e (record { only = put_only n k 1 s below; marks = λ j. one-mark n k j s fits })

-- two marks
pub marked-two : {n b c : ℕ} {s t u : List ℕ} → MarkedOne n b s t → MarkedOne n c t u → MarkedNamed n (Rule.Pair b c) s u
unfolding mark_named any_named
marked-two {n} {b} {c} {s} {t} {u} p q =
    record {
      only = within_both p.only q.only;
      marks = λ j. q.marks j ∙ ap (λ (x : Bool). x || eqb c j) (p.marks j) ∙ or_assoc (marked s n j) (eqb b j) (eqb c j);
    }

-- what a rule names, as the match found it
pub nameable-at : {t : List ℕ} {n : ℕ} {x y : Rule} → x ≡ y → Nameable t n x → Nameable t n y
nameable-at q h = rw q at h

pub name-fits : {t : List ℕ} {n k : ℕ} {x : Rule} → Nameable t n x → Names x k → (mark_at n k + 2 ≤ length t) × (k < 3 * n)
name-fits {t} {n} {k} h m = let l : k < 3 * n = h.names k m in (omega (arith, h.room), l)

pub nameable-kept : {s t : List ℕ} {n : ℕ} {x : Rule} → OnlyMarks n s t → Nameable s n x → Nameable t n x
nameable-kept w h = record { room = omega (arith, w.same_length, h.room); names = h.names }

pub named_none : (n : ℕ) (s : List ℕ) → MarkedNamed n Rule.Empty s s
unfolding mark_named any_named
named_none n s = record { only = within_none _ _ s; marks = λ j. sym (or-false (marked s n j)) }

pub named-node : {n a c : ℕ} {s t : List ℕ} → MarkedOne n c s t → MarkedNamed n (Rule.Node a c) s t
unfolding mark_named any_named
named-node p = record { only = p.only; marks = p.marks }

-- a rule with two names marks like a pair
module _ {n b c : ℕ} {s t : List ℕ} (p : MarkedNamed n (Rule.Pair b c) s t) where
  pub named-fill : MarkedNamed n (Rule.Fill b c) s t
  unfolding mark_named any_named
  named-fill = record { only = p.only; marks = p.marks }

  pub named-part : (a : ℕ) → MarkedNamed n (Rule.Part a b c) s t
  unfolding mark_named any_named
  named-part a = record { only = p.only; marks = p.marks }

  pub named-join : MarkedNamed n (Rule.Join b c) s t
  unfolding mark_named any_named
  named-join = record { only = p.only; marks = p.marks }

two : (n : ℕ) {b c : ℕ} → b < 3 * n → c < 3 * n → (k : ℕ) → Names (Rule.Pair b c) k → k < 3 * n
two n p q k pair_one = p
two n p q k pair_two = q

module _ {n b c : ℕ} {t : List ℕ} where
  pub fill-pair : Nameable t n (Rule.Fill b c) → Nameable t n (Rule.Pair b c)
  fill-pair h = record { room = h.room; names = two n (h.names b fill_one) (h.names c fill_two) }

  pub part_pair : (a : ℕ) → Nameable t n (Rule.Part a b c) → Nameable t n (Rule.Pair b c)
  part_pair a h = record { room = h.room; names = two n (h.names b part_one) (h.names c part_two) }

  pub join-pair : Nameable t n (Rule.Join b c) → Nameable t n (Rule.Pair b c)
  join-pair h = record { room = h.room; names = two n (h.names b join_one) (h.names c join_two) }

-- what may be read where the marks may be made
pub markable-readable : {t : List ℕ} {n k : ℕ} → Markable t n → k < 3 * n → Readable t (k / 3) (rule_in t (k / 3))
markable-readable {t} {n} {k} g below = ready-readable g.ready g.few (k / 3) (omega arith)

-- the variant at a place of the order
pub placed-rule : {t : List ℕ} {n i : ℕ} → Markable t n → i < 3 * n → get_or (order_in t n) (i / 3) 0 < n
placed-rule {t} {n} {i} g below = place-below g.ready (i / 3) (omega arith)

pub placed-variant : {t : List ℕ} {n i r : ℕ} → Markable t n → i < 3 * n → r ≡ get_or (order_in t n) (i / 3) 0
    → (3 * r + i % 3 ≡ places_in t n i) × (3 * r + i % 3 < 3 * n)
unfolding threefold
placed-variant {t} {n} {i} {r} g below e =
    let l : r < n = rw e (placed-rule g below) in (ap (λ (q : ℕ). 3 * q + i % 3) e, omega (arith, l))

-- a variant that is passed, marked and not
pub passed-marked : {b : Bool} {x : Rule} {n k : ℕ} {s t : List ℕ} → b ≡ marked s n k → b ≡ true → x ≡ variant_in s k → MarkedNamed n x s t → Passed n k s t
passed-marked {b} {x} {n} {k} {s} {t} e u q p =
    let is : marked s n k ≡ true = sym e ∙ u in
    record { only = p.only; marks = λ j. rw is (p.marks j ∙ ap (λ (y : Rule). mark_named y (marked s n) j) q) }

pub passed-unmarked : {b : Bool} {n k : ℕ} {s : List ℕ} → b ≡ marked s n k → b ≡ false → Passed n k s s
passed-unmarked {b} {n} {k} {s} e u =
    let is : marked s n k ≡ false = sym e ∙ u in record { only = within_none _ _ s; marks = λ j. rw is refl }

-- a variant by its name, and in the list of all
pub as-rule : (t : List ℕ) (n k : ℕ) → k < 3 * n → variant_in t k ≡ rule (variants_in t n) k
unfolding variant_in
as-rule t n k below = sym (variants-rule (variants_at t) n k below)

-- a variant names variants
pub variant-nameable : {t : List ℕ} {n k : ℕ} {x : Rule} → Markable t n → k < 3 * n → x ≡ variant_in t k → Nameable t n x
variant-nameable {t} {n} {k} {x} g below e =
    record {
      room = g.room;
      names = λ j m.
          let long : length (variants_in t n) ≡ 3 * n = variants_length (variants_at t) n in
          let q : x ≡ rule (variants_in t n) k = e ∙ as-rule t n k below in
          let l : j < length (variants_in t n) = named-below (variants_in t n) g.ranged k j (rw q at m) in omega arith;
    }

-- lists of rules made alike
from-agree : (f g : ℕ → Rule) (i m : ℕ) → ((k : ℕ) → i ≤ k → k < i + m → f k ≡ g k) → rules_from f i m ≡ rules_from g i m
unfolding rules_from
from-agree f g i zero h = refl
from-agree f g i (suc m) h =
    ap₂ (λ (x : Rule) (l : List Rule). x ∷ l) (h i (omega arith) (omega arith)) (from-agree f g (suc i) m (λ k l below. h k (omega arith) (omega arith)))

-- what stays while marks are made
module _ (n : ℕ) {s t : List ℕ} (w : OnlyMarks n s t) where
  pub kept-variants : (k : ℕ) → k < n → variants_at t k ≡ variants_at s k
  kept-variants k below = variants-past n (omega arith) w k below

  pub kept_variant : (k : ℕ) → k < 3 * n → variant_in t k ≡ variant_in s k
  unfolding variant_in
  kept_variant k below = ap (λ (v : Variants). variant v (k % 3)) (kept-variants (k / 3) (omega arith))

  pub kept-order : order_in t n ≡ order_in s n
  kept-order = order-kept w n (inr (omega arith))

  pub kept-places : (i : ℕ) → places_in t n i ≡ places_in s n i
  kept-places i = ap (λ (o : List ℕ). threefold (λ j. get_or o j 0) i) kept-order

  rules-kept : first_rules t n ≡ first_rules s n
  rules-kept = first-same s t n (λ k below. within-rule w k (λ h. absurd (omega arith)))

  pub kept-list : variants_in t n ≡ variants_in s n
  unfolding variant_rules
  kept-list = from-agree _ _ 0 (3 * n) (λ k l below. ap (λ (v : Variants). variant v (k % 3)) (kept-variants (k / 3) (omega (arith, below))))

  pub kept-markable : Markable s n → Markable t n
  kept-markable g =
      let l : length t ≡ length s = w.same_length in
      record {
        ready = record {
          room = omega (arith, g.ready.room);
          ranged = rw rules-kept g.ready.ranged;
          order = rw (rules-kept, kept-order) g.ready.order;
        };
        few = g.few;
        room = omega (arith, g.room);
        ranged = rw kept-list g.ranged;
      }

-- the number of a variant is one below its mark
pub number-none : {v : ℕ} (t : List ℕ) (n k : ℕ) → v ≡ mark_in t n k → v ≡ 0 → 0 ≡ number_in t n k
unfolding number_in
number-none t n k e z = omega (arith, e, z)

pub number-some : {v : ℕ} (t : List ℕ) (n k : ℕ) → v ≡ mark_in t n k → v - 1 ≡ number_in t n k
unfolding number_in
number-some t n k e = ap (λ (w : ℕ). w - 1) e

-- zeros in the part behind the order
no-mark : (n a m k : ℕ) (s v : List ℕ) → a ≤ length s → m ≡ 6 * n → v ≡ cleared m (take (length s - a) (drop a s)) → k < 3 * n
    → number 2 (take a s ++ (v ++ drop (length s - a) (drop a s))) (a + 0 + 2 * k) ≡ 0
no-mark n a m k s v low em e l =
    sym (word_at (take a s ++ (v ++ drop (length s - a) (drop a s))) (a + 0) (3 * n) k l)
    ∙ ap (λ (ws : List ℕ). get_or ws k 0) (words-part a 0 (3 * n) s v low)
    ∙ word_at v 0 (3 * n) k l
    ∙ ap (λ (u : List ℕ). number 2 u (0 + 2 * k)) e
    ∙ cleared-number 2 m (take (length s - a) (drop a s)) (0 + 2 * k) (omega (arith, em, l))

pub marks-cleared : (n a m : ℕ) (s : List ℕ) {v : List ℕ} → marks_end n ≤ length s → a ≡ order_end n → m ≡ 6 * n → v ≡ cleared m (take (length s - a) (drop a s))
    → Unmarked n s (take a s ++ (v ++ drop (length s - a) (drop a s)))
unfolding marked mark_in
marks-cleared n a m s {v} room ea em e =
    let long : length (take (length s - a) (drop a s)) ≡ length s - a = part_length a s in
    let zeros : Within 0 m (take (length s - a) (drop a s)) v
    = rw e (within-cleared m (take (length s - a) (drop a s)) (omega (arith, long, room, ea, em))) in
    record {
      only = within_wider (order_end n) (marks_end n) (omega (arith, ea)) (omega (arith, ea, em)) (within-part a m (omega (arith, room, ea)) zeros);
      marks = λ k l.
          let at : mark_at n k ≡ a + 0 + 2 * k = omega (arith, ea) in
          ap (ltb 0) (ap (number 2 (take a s ++ (v ++ drop (length s - a) (drop a s)))) at ∙ no-mark n a m k s v (omega (arith, room, ea)) em e l);
    }

eqb-flip : (a b : ℕ) → eqb a b ≡ eqb b a
eqb-flip a b = cases (eqb b a) (λ e. eq-eqb a b (sym (eqb-true b a e)) ∙ sym e) (λ e. ne_eqb a b (λ q. eqb-false b a e (sym q)) ∙ sym e)

-- the first pass, from nothing
pub marked_from : {n start : ℕ} {s t u v : List ℕ} → Unmarked n s t → MarkedOne n start t u → MarkedAll n u v → Marked n start s v
marked_from {n} {start} {s} {t} {u} {v} none one all =
    let w : OnlyMarks n s u = within_both none.only one.only in
    let first : (k : ℕ) → k < 3 * n → marked u n k ≡ eqb k start
    = λ k l. one.marks k ∙ ap (λ (b : Bool). b || eqb start k) (none.marks k l) ∙ eqb-flip start k in
    record {
      only = within_both w all.only;
      marks = λ place P. rw (kept-list n w, kept-order n w) at (all.marks start place (rw (kept-list n w, kept-order n w) P) first);
    }
