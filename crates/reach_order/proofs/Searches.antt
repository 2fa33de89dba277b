-- The depth-first search on functions of the place: rules that are seen are counted by the stack and the order, so both have room; a rule
-- that is opened differs from all that are open, and one that is closed from all that are done. Assumes nothing.
use Prim.Native.Nat.{ℕ, suc, ◌+◌, ◌≤◌, ◌<◌}
use native.Mathlib.Omega.{arith}
use native.Mathlib.Decide.{ℕ_discrete}
use mathlib.Core.Bool.{Bool, true, false}
use mathlib.Core.Path.{◌≡◌, refl, sym, ap, subst, ◌∙◌}
use mathlib.Core.List.{List}
use lib.ListN.{length}
use lib.Dec.{ltb}
use borrow.Author.Tests.{lt-ltb}
use Rattle.rule.specs.declared.Rule.{Rule}
use Rattle.rule.specs.Names.{Names}
use Rattle.rule.specs.Sound.{rule}
use Rattle.reach.specs.Reaches.{Reaches}
use Rattle.reach.specs.Order.{count}
use Rattle.reach.specs.Building.{Stands}
use Rattle.reach.proofs.Counting.{up_to, count-all, count_none, count_most, count-below, count_same, count-more}
use Rattle.reach.proofs.Building.{chain-none, chain_same, chain_more, chain-cycle, stands_same, begun-none, begun-same, begun_more}
use Rattle.reach_order.specs.Search.{unseen, opened, done, seen, Search}

-- nothing has been seen
pub search-none : (R : List Rule) (mark st o : ℕ → ℕ) → ((i : ℕ) → i < length R → mark i ≡ unseen) → Search R mark st o 0 0
search-none R mark st o blank = record {
  counted = count_none (length R) (seen mark) (λ i l. rw (blank i l));
  chain = chain-none R st;
  inside = λ j l. absurd (omega arith);
  marked = λ j l. absurd (omega arith);
  once = λ i j l h e. absurd (omega arith);
  stacked = λ r l e. absurd (let z = blank r l in omega arith);
  begun = begun-none R o;
  finished = λ j l. absurd (omega arith);
  ordered = λ r l ne nor. absurd (ne (blank r l));
}

module _ {R : List Rule} {mark st o : ℕ → ℕ} {top m : ℕ} (S : Search R mark st o top m) where
  -- the stack and the order have room, and for one more where some rule hasn't been seen
  pub search-most : top + m ≤ length R
  search-most = omega (arith, S.counted, count_most (length R) (seen mark))

  pub search-more : (k : ℕ) → k < length R → mark k ≡ unseen → top + m < length R
  search-more k l e =
      omega (arith, S.counted, count-below (length R) (seen mark) k l (λ t. let z : ◌≡◌ {A = Bool} true false = sym t ∙ rw e in let y : ◌≡◌ {A = ℕ} 0 1 = cc in omega arith))

  -- the top names an open rule
  pub search-cycle : (t k : ℕ) → suc t ≡ top → k < length R → Names (rule R (st t)) k → mark k ≡ opened → Reaches R k k
  search-cycle t k e l names open' =
      let (i, h, q) = S.stacked k l open' in
      subst (λ (x : ℕ). Reaches R x x) q (chain-cycle R st top S.chain i t e h (rw q names))

-- a rule that hasn't been seen is opened
module _ {R : List Rule} {mark new st st' o o' : ℕ → ℕ} {top m k : ℕ} (S : Search R mark st o top m) (below : k < length R) (fresh : mark k ≡ unseen)
    (names : (t : ℕ) → suc t ≡ top → Names (rule R (st t)) k)
    (own : new k ≡ opened) (others : (i : ℕ) → i < length R → (i ≡ k → ⊥) → new i ≡ mark i)
    (pushed : st' top ≡ k) (under : (j : ℕ) → j < top → st' j ≡ st j) (behind : (j : ℕ) → j < m → o' j ≡ o j) where
  -- a rule with a mark differs from it
  differs : (i v : ℕ) → mark i ≡ suc v → i ≡ k → ⊥
  differs i v e q = let z : mark i ≡ 0 = ap mark q ∙ fresh in omega arith

  stays : (i v : ℕ) → i < length R → mark i ≡ suc v → new i ≡ suc v
  stays i v l e = others i l (differs i v e) ∙ e

  was : (i : ℕ) → i < length R → (i ≡ k → ⊥) → (v : ℕ) → new i ≡ v → mark i ≡ v
  was i l ne v e = sym (others i l ne) ∙ e

  fresh-top : (j : ℕ) → j < top → st' j ≡ st' top → ⊥
  fresh-top j l e = differs (st j) 0 (S.marked j l) (sym (under j l) ∙ e ∙ pushed)

  pub search-open : Search R new st' o' (suc top) m
  search-open = record {
    counted =
        count-more (length R) (seen mark) (seen new) k below (rw fresh) (rw own) (λ i l ne. ap (λ (v : ℕ). ltb 0 v) (others i l ne))
        ∙ ap suc S.counted
        ∙ omega arith;
    chain = chain_more R st' top (chain_same R st st' top top (omega arith) under S.chain) (λ t e. rw (pushed, under t (omega arith)) (names t e));
    inside = λ j l. up_to top j l (λ x. st' x < length R) (λ h. rw (under j h) (S.inside j h)) (rw pushed below);
    marked = λ j l. up_to top j l (λ x. new (st' x) ≡ opened) (λ h. rw (under j h) (stays (st j) 0 (S.inside j h) (S.marked j h))) (rw pushed own);
    once = λ i j l h. up_to top i l (λ x. st' x ≡ st' j → x ≡ j)
        (λ p. up_to top j h (λ y. st' i ≡ st' y → i ≡ y) (λ q e. S.once i j p q (sym (under i p) ∙ e ∙ under j q)) (λ e. absurd (fresh-top i p e)))
        (up_to top j h (λ y. st' top ≡ st' y → top ≡ y) (λ q e. absurd (fresh-top j q (sym e))) (λ e. refl));
    stacked = λ r l e.
        elim (ℕ_discrete r k) [
          | yes q ↦ (top, omega arith, pushed ∙ sym q)
          | no ne ↦ stands_same st st' top (suc top) r (omega arith) under (S.stacked r l (was r l ne opened e))
        ];
    begun = begun-same R o o' m behind S.begun;
    finished = λ j l. rw (behind j l) (stays (o j) 1 (S.begun.inside j l) (S.finished j l));
    ordered = λ r l ne nor.
        let other : r ≡ k → ⊥ = λ q. nor (ap new q ∙ own) in
        stands_same o o' m m r (omega arith) behind (S.ordered r l (λ e. ne (others r l other ∙ e)) (λ e. nor (others r l other ∙ e)));
  }

-- the top is closed
module _ {R : List Rule} {mark new st st' o o' : ℕ → ℕ} {t m r : ℕ} (S : Search R mark st o (suc t) m) (top : st t ≡ r)
    (names : (k : ℕ) → Names (rule R r) k → (k < length R) × (mark k ≡ unseen → ⊥) × (mark k ≡ opened → ⊥))
    (own : new r ≡ done) (others : (i : ℕ) → i < length R → (i ≡ r → ⊥) → new i ≡ mark i)
    (appended : o' m ≡ r) (before : (j : ℕ) → j < m → o' j ≡ o j) (under : (j : ℕ) → j < t → st' j ≡ st j) where
  below : r < length R
  below = rw top at (S.inside t (omega arith))

  was-open : mark r ≡ opened
  was-open = rw top at (S.marked t (omega arith))

  lower : (j : ℕ) → j < t → st j ≡ r → ⊥
  lower j l e = let q : j ≡ t = S.once j t (omega arith) (omega arith) (e ∙ sym top) in omega arith

  finished-other : (i : ℕ) → mark i ≡ done → i ≡ r → ⊥
  finished-other i e q = let z : mark i ≡ opened = ap mark q ∙ was-open in omega arith

  pub search-close : Search R new st' o' t (suc m)
  search-close = record {
    counted =
        count_same (length R) (seen mark) (seen new)
        (λ i l. elim (ℕ_discrete i r) [ yes q ↦ rw (q, own, was-open) | no ne ↦ ap (λ (v : ℕ). ltb 0 v) (others i l ne) ])
        ∙ S.counted
        ∙ omega arith;
    chain = chain_same R st st' (suc t) t (omega arith) under S.chain;
    inside = λ j l. rw (under j l) (S.inside j (omega arith));
    marked = λ j l. rw (under j l) (others (st j) (S.inside j (omega arith)) (lower j l) ∙ S.marked j (omega arith));
    once = λ i j l h e. S.once i j (omega arith) (omega arith) (sym (under i l) ∙ e ∙ under j h);
    stacked = λ x l e.
        let other : x ≡ r → ⊥ = λ q. let z : new x ≡ done = ap new q ∙ own in omega arith in
        let (j, h, q) = S.stacked x l (sym (others x l other) ∙ e) in
        up_to t j h (λ y. st y ≡ x → Stands st' t x) (λ p w. (j, p, under j p ∙ w)) (λ w. absurd (other (sym w ∙ top))) q;
    begun =
        begun_more R o' m (begun-same R o o' m before S.begun) (rw appended below)
        (λ (j, l, e). finished-other (o j) (S.finished j l) (sym (before j l) ∙ e ∙ appended))
        (λ k h. let (l, p, q) = names k (rw appended at h) in stands_same o o' m m k (omega arith) before (S.ordered k l p q));
    finished = λ j l.
        up_to m j l (λ x. new (o' x) ≡ done)
        (λ h. rw (before j h) (others (o j) (S.begun.inside j h) (finished-other (o j) (S.finished j h)) ∙ S.finished j h))
        (rw appended own);
    ordered = λ x l ne nor.
        elim (ℕ_discrete x r) [
          | yes q ↦ (m, omega arith, appended ∙ sym q)
          | no other ↦ stands_same o o' m (suc m) x (omega arith) before
              (S.ordered x l (λ e. ne (others x l other ∙ e)) (λ e. nor (others x l other ∙ e)))
        ];
  }

-- all rules have been seen and none is open: all are done
pub search-all : {R : List Rule} {mark st o : ℕ → ℕ} {m : ℕ} → Search R mark st o 0 m → ((i : ℕ) → i < length R → mark i ≡ unseen → ⊥) → m ≡ length R
search-all {R} {mark} S all =
    let e : count (seen mark) (length R) ≡ length R = count_same (length R) (λ i. true) (seen mark) (λ i l. lt-ltb 0 (mark i) (positive (mark i) (all i l))) ∙ count-all (length R) in
    omega (arith, S.counted)
  where
    positive : (v : ℕ) → (v ≡ 0 → ⊥) → 0 < v
    positive v ne = elim (ℕ_discrete v 0) [ yes q ↦ absurd (ne q) | no q ↦ omega (arith, q) ]
