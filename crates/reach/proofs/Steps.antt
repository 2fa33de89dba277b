-- The test `reaches` is exact. The rules from which b is reached within k steps are a set that only grows with k and that makes the next
-- one: once it stays as it was it stays for good, and it can grow no more often than there are rules. Assumes nothing.
use Prim.Native.Nat.{ℕ, zero, suc, ◌<◌}
use mathlib.Core.Bool.{Bool, true, ◌||◌, or-true, false≢true}
use mathlib.Core.Logic.{◌↔◌, ⊎_elim}
use mathlib.Core.List.{List}
use mathlib.Core.Path.{◌≡◌, refl, subst}
use native.Mathlib.Decide.{le_ind}
use native.Mathlib.Omega.{arith}
use lib.Dec.{eqb, ltb, ltb→lt}
use lib.ListN.{length}
use borrow.Author.Tests.{eqb-true, eq-eqb}
use Rattle.rule.specs.declared.Rule.{Rule}
use Rattle.rule.specs.Names.{Names}
use Rattle.rule.specs.Sound.{rule}
use Rattle.rule.proofs.Names.{every-named}
use Rattle.reach.specs.Reaches.{Reaches, named, through, within, reaches}
use Rattle.reach.specs.Order.{Ranged}
use Rattle.reach.proofs.Named.{either, named-any, any-named, names-below}
use Rattle.reach.proofs.Counting.{Sub, Stays, stages, count-full}

-- reaching goes on, from either end
pub reaches-trans : {R : List Rule} {a b c : ℕ} → Reaches R a b → Reaches R b c → Reaches R a c
reaches-trans (named m) s = through m s
reaches-trans (through m r) s = through m (reaches-trans r s)

pub reaches-extend : {R : List Rule} {a b c : ℕ} → Reaches R a b → Names (rule R b) c → Reaches R a c
reaches-extend r m = reaches-trans r (named m)

-- a property that passes from a rule to those that it names, and that those named by a have, all that a reaches have
pub reaches-closed : {R : List Rule} {a b : ℕ} (P : ℕ → Type 0)
    → ((r k : ℕ) → P r → Names (rule R r) k → P k)
    → ((k : ℕ) → Names (rule R a) k → P k)
    → Reaches R a b
    → P b
reaches-closed P step start (named {b} m) = start b m
reaches-closed P step start (through {x} m r) = reaches-closed P step (λ k. step x k (start x m)) r

-- whoever reaches a rule is one of the rules, and where all named rules are, so is what it reaches
pub reaches-from : {R : List Rule} {a b : ℕ} → Reaches R a b → a < length R
reaches-from {R} {a} (named {b} m) = names-below R a b m
reaches-from {R} {a} (through {x} m r) = names-below R a x m

pub named-below : (R : List Rule) → Ranged R → (a x : ℕ) → Names (rule R a) x → x < length R
named-below R ok a x m = ltb→lt x (length R) (every-named (λ y. ltb y (length R)) m (ok a (names-below R a x m)))

pub reaches-below : {R : List Rule} → Ranged R → {a b : ℕ} → Reaches R a b → b < length R
reaches-below {R} ok {a} r = reaches-closed (λ x. x < length R) (λ x k l. named-below R ok x k) (named-below R ok a) r

-- within k steps
pub within-reaches : (R : List Rule) (k a b : ℕ) → within R k a b ≡ true → Reaches R a b
unfolding within
within-reaches R zero a b h = absurd (false≢true h)
within-reaches R (suc k) a b h =
    let (x, m, t) = any-named (λ y. eqb y b || within R k y b) (rule R a) h in
    ⊎_elim (λ e. named (subst (Names (rule R a)) (eqb-true x b e) m)) (λ w. through m (within-reaches R k x b w)) (either (eqb x b) (within R k x b) t)

-- b is named within k + 1 steps if it is named at once, or within k steps from a named rule
pub within-named : (R : List Rule) (k a b : ℕ) → Names (rule R a) b → within R (suc k) a b ≡ true
unfolding within
within-named R k a b m = named-any (λ y. eqb y b || within R k y b) m (rw (eq-eqb b b refl))

pub within-through : (R : List Rule) (k a x b : ℕ) → Names (rule R a) x → within R k x b ≡ true → within R (suc k) a b ≡ true
unfolding within
within-through R k a x b m h = named-any (λ y. eqb y b || within R k y b) m (rw (h, or-true))

module _ (R : List Rule) (ok : Ranged R) (b : ℕ) where
  abbrev steps : ℕ → ℕ → Bool
  steps k a = within R k a b

  -- what is found within j steps and k steps compares as it does one step on
  next : (j k : ℕ) → Sub (length R) (steps j) (steps k) → Sub (length R) (steps (suc j)) (steps (suc k))
  unfolding within
  next j k f a l h =
      let (x, m, t) = any-named (λ y. eqb y b || within R j y b) (rule R a) h in
      ⊎_elim (λ e. within-named R k a b (subst (Names (rule R a)) (eqb-true x b e) m))
      (λ w. within-through R k a x b m (f x (named-below R ok a x m) w)) (either (eqb x b) (within R j x b) t)

  grown : (k : ℕ) → Sub (length R) (steps k) (steps (suc k))
  unfolding within
  grown zero = λ a l h. absurd (false≢true h)
  grown (suc k) = next k (suc k) (grown k)

  -- as many steps as there are rules are enough
  settled : Stays (length R) steps (length R)
  settled =
      ⊎_elim
      (λ h a l w. count-full (length R) (steps (length R)) h a l)
      (λ (j, l, u). le_ind (Stays (length R) steps) u (λ m k. next (suc m) m) (length R) (omega (arith, l)))
      (stages (length R) steps grown (length R))

  all : {a : ℕ} → Reaches R a b → within R (length R) a b ≡ true
  all {a} (named m) = settled a (names-below R a b m) (within-named R (length R) a b m)
  all {a} (through {x} m r) = settled a (names-below R a x m) (within-through R (length R) a x b m (all r))

pub reaches-exact : (R : List Rule) → Ranged R → (a b : ℕ) → (reaches R a b ≡ true) ↔ Reaches R a b
unfolding reaches
reaches-exact R ok a b = (within-reaches R (length R) a b, all R ok b)
