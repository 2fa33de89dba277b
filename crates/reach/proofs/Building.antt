-- What a depth-first search over the rules needs. Its stack, from the bottom up, is a chain in which each rule names the next, so a rule
-- on the stack that the top names reaches itself; and rules written one by one, each once and each after all that it names, are an order
-- when they are as many as there are rules, since n different numbers below n are all of them. Assumes nothing.
use Prim.Native.Nat.{ℕ, suc, ◌≤◌, ◌<◌}
use mathlib.Core.List.{List}
use mathlib.Core.Path.{◌≡◌, refl, sym, subst, ◌∙◌}
use native.Mathlib.Decide.{dec_lt, le_ind}
use native.Mathlib.Omega.{arith}
use lib.ListN.{length, get_or}
use Rattle.rule.specs.declared.Rule.{Rule}
use Rattle.rule.specs.Names.{Names}
use Rattle.rule.specs.Sound.{rule}
use Rattle.reach.specs.Reaches.{Reaches, named}
use Rattle.reach.specs.Order.{Orders}
use Rattle.reach.specs.Building.{Chain, Stands, Begun}
use Rattle.reach.proofs.Counting.{up_to, onto}
use Rattle.reach.proofs.Steps.{reaches-extend}

pub chain-none : (R : List Rule) (st : ℕ → ℕ) → Chain R st 0
chain-none R st i l = absurd (omega (arith, l))

-- a stack that begins as this one does, and is no longer
pub chain_same : (R : List Rule) (st new : ℕ → ℕ) (m k : ℕ) → k ≤ m → ((i : ℕ) → i < k → new i ≡ st i) → Chain R st m → Chain R new k
chain_same R st new m k h same c i l = rw (same i (omega (arith, l)), same (suc i) l) (c i (omega (arith, h, l)))

-- one rule more, which the top names if there is one
pub chain_more : (R : List Rule) (st : ℕ → ℕ) (m : ℕ) → Chain R st m → ((t : ℕ) → suc t ≡ m → Names (rule R (st t)) (st m)) → Chain R st (suc m)
chain_more R st m c top i l =
    elim (dec_lt (suc i) m) [
      | yes h ↦ c i h
      | no h ↦ let e : suc i ≡ m = omega (arith, l, h) in rw e (top i e)
    ]

module _ (R : List Rule) (st : ℕ → ℕ) (m : ℕ) (c : Chain R st m) where
  pub chain-reaches : (i j : ℕ) → i < j → j < m → Reaches R (st i) (st j)
  chain-reaches i j l =
      le_ind (λ (k : ℕ). k < m → Reaches R (st i) (st k)) (λ h. named (c i h)) (λ k l r h. reaches-extend (r (omega (arith, h))) (c k h)) j l

  -- the top names a rule of the stack
  pub chain-cycle : (i t : ℕ) → suc t ≡ m → i < m → Names (rule R (st t)) (st i) → Reaches R (st i) (st i)
  chain-cycle i t e l n =
      elim (dec_lt i t) [
        | yes h ↦ reaches-extend (chain-reaches i t h (omega (arith, e))) n
        | no h ↦ let q : t ≡ i = omega (arith, e, l, h) in named (subst (λ (x : ℕ). Names (rule R (st x)) (st i)) q n)
      ]

pub stands_same : (o new : ℕ → ℕ) (m k r : ℕ) → m ≤ k → ((i : ℕ) → i < m → new i ≡ o i) → Stands o m r → Stands new k r
stands_same o new m k r h same (i, l, e) = (i, omega (arith, h, l), same i l ∙ e)

pub begun-none : (R : List Rule) (o : ℕ → ℕ) → Begun R o 0
begun-none R o = record {
  inside = λ i l. absurd (omega (arith, l));
  once = λ i j l k e. absurd (omega (arith, l));
  after = λ i k l n. absurd (omega (arith, l));
}

pub begun-same : (R : List Rule) (o new : ℕ → ℕ) (m : ℕ) → ((i : ℕ) → i < m → new i ≡ o i) → Begun R o m → Begun R new m
begun-same R o new m same B = record {
  inside = λ i l. rw (same i l) (B.inside i l);
  once = λ i j l k e. B.once i j l k (sym (same i l) ∙ e ∙ same j k);
  after = λ i k l n. stands_same o new i i k (omega arith) (λ j h. same j (omega (arith, h, l))) (B.after i k l (rw (same i l) at n));
}

-- one rule more, which doesn't stand there yet, and all that it names does
pub begun_more : (R : List Rule) (o : ℕ → ℕ) (m : ℕ) → Begun R o m
    → o m < length R → (Stands o m (o m) → ⊥) → ((k : ℕ) → Names (rule R (o m)) k → Stands o m k) → Begun R o (suc m)
begun_more R o m B h fresh names = record {
  inside = λ i l. up_to m i l (λ x. o x < length R) (B.inside i) h;
  once = λ i j l k. up_to m i l (λ x. o x ≡ o j → x ≡ j) (λ p. up_to m j k (λ y. o i ≡ o y → i ≡ y) (B.once i j p) (λ q. absurd (fresh (i, p, q))))
      (up_to m j k (λ y. o m ≡ o y → m ≡ y) (λ p q. absurd (fresh (j, p, sym q))) (λ q. refl));
  after = λ i k l. up_to m i l (λ x. Names (rule R (o x)) k → Stands o x k) (B.after i k) (names k);
}

-- as many as there are rules
pub begun-orders : (R : List Rule) (o : List ℕ) → length o ≡ length R → Begun R (λ i. get_or o i 0) (length R) → Orders R o
begun-orders R o e B = record {
  long = e;
  inside = B.inside;
  place = place;
  placed = λ r l. ((find r).1 l).0;
  there = there;
  once = λ i l. placed_at (get_or o i 0) i l refl;
  after = λ r k l n. let (j, h, q) = B.after (place r) k ((find r).1 l).0 (rw (there r l) n) in
      let s : place k ≡ j = placed_at k j (omega (arith, h, ((find r).1 l).0)) q in rw s h;
}
  where
    find : (r : ℕ) → (i : ℕ) × (r < length R → (i < length R) × (get_or o i 0 ≡ r))
    find r =
        elim (dec_lt r (length R)) [
          | yes l ↦ let (i, p, q) = onto (length R) (λ i. get_or o i 0) B.inside B.once r l in (i, λ h. (p, q))
          | no g ↦ (0, λ l. absurd (g l))
        ]

    place : ℕ → ℕ
    place r = (find r).0

    there : (r : ℕ) → r < length R → get_or o (place r) 0 ≡ r
    there r l = ((find r).1 l).1

    placed_at : (r i : ℕ) → i < length R → get_or o i 0 ≡ r → place r ≡ i
    placed_at r i l q = let h : r < length R = rw q at (B.inside i l) in B.once (place r) i ((find r).1 h).0 l (there r h ∙ sym q)
