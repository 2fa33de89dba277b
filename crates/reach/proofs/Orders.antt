-- In an order of the rules each stands after those that it names, so the place falls along names and no rule reaches itself. Rules that
-- name only lower ones stand in the order of their numbers. Assumes nothing.
use Prim.Native.Nat.{ℕ, zero, suc, ◌+◌, ◌<◌}
use mathlib.Core.List.{List}
use mathlib.Core.Bool.{Bool, true, false, ◌&&◌, and-eq-true_iff}
use Rattle.std.specs.Prelude.{None}
use mathlib.Core.Path.{◌≡◌, refl, ap, ◌∙◌}
use native.Mathlib.Decide.{dec_lt}
use native.Mathlib.Omega.{arith}
use lib.Dec.{T, ltb, ltb→lt, lt→ltb}
use lib.ListN.{length, get_or}
use Rattle.rule.specs.declared.Rule.{Rule}
use Rattle.rule.specs.Rule.{every}
use Rattle.rule.specs.Names.{Names}
use Rattle.rule.specs.Sound.{rule}
use Rattle.rule.proofs.Names.{every-named}
use Rattle.reach.specs.Reaches.{lowest_cycle}
use Rattle.reach.specs.Order.{Ranged, Lower, lower_below, Acyclic, Orders, numbers_from}
use Rattle.reach.proofs.Named.{named-every, names-below}
use Rattle.reach.proofs.Acyclic.{falls-acyclic}
use Rattle.reach.proofs.Lowest.{lowest-none}

module _ {R : List Rule} {o : List ℕ} (O : Orders R o) where
  pub orders-acyclic : Acyclic R
  orders-acyclic = falls-acyclic R O.place (λ r k m. O.after r k (names-below R r k m) m)

  -- the place is a rank (that it is below the number of rules, `placed` says)
  pub orders-falls : (r : ℕ) → r < length R → T (every (λ x. ltb (O.place x) (O.place r)) (rule R r))
  orders-falls r l = named-every (λ x. ltb (O.place x) (O.place r)) (rule R r) (λ x m. lt→ltb (O.place x) (O.place r) (O.after r x l m))

  pub orders-none : Ranged R → lowest_cycle R ≡ None
  orders-none ok = (lowest-none R ok).1 orders-acyclic

-- numbers in a row
pub numbers-length : (i n : ℕ) → length (numbers_from i n) ≡ n
unfolding numbers_from
numbers-length i zero = refl
numbers-length i (suc n) = ap suc (numbers-length (suc i) n)

pub numbers-at : (i n k : ℕ) → k < n → get_or (numbers_from i n) k 0 ≡ i + k
unfolding numbers_from
numbers-at i zero k l = absurd (omega (arith, l))
numbers-at i (suc n) zero l = omega arith
numbers-at i (suc n) (suc k) l = numbers-at (suc i) n k (omega (arith, l)) ∙ omega arith

module _ (R : List Rule) (lower : Lower R) where
  lower-named : (r k : ℕ) → Names (rule R r) k → k < r
  lower-named r k m = ltb→lt k r (every-named (λ x. ltb x r) m (lower r (names-below R r k m)))

  pub lower-ranged : Ranged R
  lower-ranged r l =
      named-every (λ x. ltb x (length R)) (rule R r) (λ x m. let h : x < r = lower-named r x m in lt→ltb x (length R) (omega (arith, l, h)))

  at : (i : ℕ) → i < length R → get_or (numbers_from 0 (length R)) i 0 ≡ i
  at i l = numbers-at 0 (length R) i l ∙ omega arith

  pub lower-orders : Orders R (numbers_from 0 (length R))
  lower-orders = record {
    long = numbers-length 0 (length R);
    inside = λ i l. rw (at i l) l;
    place = λ r. r;
    placed = λ r l. l;
    there = at;
    once = at;
    after = λ r k l m. lower-named r k m;
  }

  pub lower-acyclic : Acyclic R
  lower-acyclic = falls-acyclic R (λ r. r) lower-named

  pub lower-none : lowest_cycle R ≡ None
  lower-none = (lowest-none R lower-ranged).1 lower-acyclic

holds : {b : Bool} → b ≡ true → T b
holds e = rw e tt

is_true : (b : Bool) → T b → b ≡ true
is_true true t = refl
is_true false t = absurd t

pub lower-none-below : (R : List Rule) → true ≡ lower_below R 0
unfolding lower_below
lower-none-below R = refl

pub lower-one-more : (R : List Rule) (i : ℕ) {a b : Bool} → a ≡ lower_below R i → b ≡ every (λ x. ltb x i) (rule R i) → (a && b) ≡ lower_below R (i + 1)
unfolding lower_below
lower-one-more R i p q = let e : i + 1 ≡ suc i = omega arith in rw (e, p, q)

-- the test of the rules below i says that each names only lower ones; so the test of all says it of all, and so exactly
below-lower : (R : List Rule) (i : ℕ) → lower_below R i ≡ true → (r : ℕ) → r < i → T (every (λ x. ltb x r) (rule R r))
unfolding lower_below
below-lower R zero e r l = absurd (omega (arith, l))
below-lower R (suc i) e r l =
    let (before, own) = (and-eq-true_iff (lower_below R i) (every (λ x. ltb x i) (rule R i))).0 e in
    elim (dec_lt r i) as (λ (d : Dec (r < i)). T (every (λ x. ltb x r) (rule R r))) [
      | yes under ↦ below-lower R i before r under
      | no over ↦ let q : r ≡ i = omega (arith, l, over) in rw q (holds own)
    ]

pub lower-test : (R : List Rule) → lower_below R (length R) ≡ true → Lower R
lower-test R e r l = below-lower R (length R) e r l

lower-below : (R : List Rule) (i : ℕ) → ((r : ℕ) → r < i → T (every (λ x. ltb x r) (rule R r))) → lower_below R i ≡ true
unfolding lower_below
lower-below R zero h = refl
lower-below R (suc i) h = rw (lower-below R i (λ r l. h r (omega (arith, l))), is_true (every (λ x. ltb x i) (rule R i)) (h i (omega arith)))

pub test-lower : (R : List Rule) → Lower R → lower_below R (length R) ≡ true
test-lower R lower = lower-below R (length R) lower
