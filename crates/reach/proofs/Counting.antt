-- Counting the numbers below n that pass a test. Where what passes p passes q too, q counts more or passes no more than p; so of n stages
-- that only grow, one stays as it was or the last holds all. Assumes nothing.
use Prim.Native.Nat.{ℕ, zero, suc, ◌≤◌, ◌<◌}
use mathlib.Core.Bool.{Bool, true, false, cond, false≢true, ◌||◌, or-true}
use mathlib.Core.Logic.{◌⊎◌, inl, inr, ⊎_elim}
use mathlib.Core.Path.{◌≡◌, refl, sym, ap, ◌∙◌}
use native.Mathlib.Omega.{arith}
use native.Mathlib.Decide.{dec_lt}
use lib.Dec.{eqb}
use borrow.Author.Tests.{eqb-true, eq-eqb}
use Rattle.reach.specs.Order.{count}
use Rattle.reach.proofs.Named.{either}

-- below n, what passes p passes q
abbrev pub Sub : ℕ → (ℕ → Bool) → (ℕ → Bool) → Type 0
Sub n p q = (i : ℕ) → i < n → p i ≡ true → q i ≡ true

-- below n + 1 is below n, or n
pub up_to : (n i : ℕ) → i < suc n → (P : ℕ → Type 0) → (i < n → P i) → P n → P i
up_to n i l P f p = elim (dec_lt i n) [ yes m ↦ f m | no m ↦ let e : i ≡ n = omega (arith, l, m) in rw e p ]

last : {n : ℕ} (p q : ℕ → Bool) → Sub n p q → (p n ≡ true → q n ≡ true) → Sub (suc n) p q
last {n} p q f g i l = up_to n i l (λ x. p x ≡ true → q x ≡ true) (f i) g

abbrev Grows : ℕ → (ℕ → Bool) → (ℕ → Bool) → Type 0
Grows n p q = (count p n < count q n) ⊎ ((count p n ≡ count q n) × Sub n q p)

-- the count grows, or nothing is added
grows : (n : ℕ) (p q : ℕ → Bool) → Sub n p q → Grows n p q
unfolding count
grows zero p q f = inr (refl, λ i l h. absurd (omega (arith, l)))
grows (suc n) p q f = by (p n) (q n) refl refl (grows n p q (λ i l h. f i (omega (arith, l)) h))
  where
    by : (a b : Bool) → p n ≡ a → q n ≡ b → Grows n p q → Grows (suc n) p q
    by true true s t g = rw (s, t) (⊎_elim (λ (l : count p n < count q n). inl (omega (arith, l))) (λ (e, u). inr (rw e, last q p u (λ w. s))) g)
    by true false s t g = absurd (false≢true (sym t ∙ f n (omega arith) s))
    by false true s t g = rw (s, t) (⊎_elim (λ (l : count p n < count q n). inl (omega (arith, l))) (λ (e, u). inl (omega (arith, e))) g)
    by false false s t g = rw (s, t) (⊎_elim inl (λ (e, u). inr (e, last q p u (λ w. absurd (false≢true (sym t ∙ w))))) g)

-- by one number, strictly
pub count_less : (n : ℕ) (p q : ℕ → Bool) → Sub n p q → (j : ℕ) → j < n → q j ≡ true → (p j ≡ true → ⊥) → count p n < count q n
count_less n p q f j l h g = ⊎_elim (λ x. x) (λ (e, u). absurd (g (u j l h))) (grows n p q f)

pub count-all : (n : ℕ) → count (λ i. true) n ≡ n
unfolding count
count-all zero = refl
count-all (suc n) = ap suc (count-all n)

-- a count of n leaves nothing out, and without j it is below n
pub count-full : (n : ℕ) (p : ℕ → Bool) → n ≤ count p n → (i : ℕ) → i < n → p i ≡ true
count-full n p h i l =
    ⊎_elim (λ (s : count p n < count (λ i. true) n). absurd (omega (arith, s, h, count-all n))) (λ (e, u). u i l refl) (grows n p (λ i. true) (λ i l t. refl))

pub count-below : (n : ℕ) (p : ℕ → Bool) (j : ℕ) → j < n → (p j ≡ true → ⊥) → count p n < n
count-below n p j l g = rw (count-all n) at (count_less n p (λ i. true) (λ i l t. refl) j l refl g)

-- nothing passes; at most all do; and one more passes
pub count_none : (n : ℕ) (p : ℕ → Bool) → ((i : ℕ) → i < n → p i ≡ false) → count p n ≡ 0
unfolding count
count_none zero p f = refl
count_none (suc n) p f = rw (f n (omega arith)) (count_none n p (λ i l. f i (omega (arith, l))))

pub count_most : (n : ℕ) (p : ℕ → Bool) → count p n ≤ n
count_most n p =
    ⊎_elim (λ (s : count p n < count (λ i. true) n). omega (arith, s, count-all n)) (λ (e, u). omega (arith, e, count-all n))
    (grows n p (λ i. true) (λ i l t. refl))

pub count_same : (n : ℕ) (p q : ℕ → Bool) → ((i : ℕ) → i < n → q i ≡ p i) → count q n ≡ count p n
unfolding count
count_same zero p q f = refl
count_same (suc n) p q f = rw (f n (omega arith), count_same n p q (λ i l. f i (omega (arith, l))))

pub count-more : (n : ℕ) (p q : ℕ → Bool) (j : ℕ) → j < n → p j ≡ false → q j ≡ true
    → ((i : ℕ) → i < n → (i ≡ j → ⊥) → q i ≡ p i) → count q n ≡ suc (count p n)
unfolding count
count-more zero p q j l s t f = absurd (omega (arith, l))
count-more (suc n) p q j l s t f =
    elim (dec_lt j n) [
      | yes h ↦ rw (f n (omega arith) (λ e. omega (arith, e, h)), count-more n p q j h s t (λ i k. f i (omega (arith, k)))) (both (count p n) (p n))
      | no h ↦ let e : j ≡ n = omega (arith, l, h) in rw (rw e at s, rw e at t, count_same n p q (λ i k. f i (omega (arith, k)) (λ d. omega (arith, d, h, k))))
    ]
  where
    both : (a : ℕ) (b : Bool) → cond b (suc (suc a)) (suc a) ≡ suc (cond b (suc a) a)
    both a true = refl
    both a false = refl

-- of stages of a set of numbers below n, stage k is followed by nothing new
abbrev pub Stays : ℕ → (ℕ → ℕ → Bool) → ℕ → Type 0
Stays n S k = Sub n (S (suc k)) (S k)

-- stages that only grow: stage k has k numbers at least, or one before it stayed as it was
pub stages : (n : ℕ) (S : ℕ → ℕ → Bool) → ((k : ℕ) → Sub n (S k) (S (suc k))) → (k : ℕ) → (k ≤ count (S k) n) ⊎ ((j : ℕ) × (j < k) × Stays n S j)
stages n S more zero = inl (omega arith)
stages n S more (suc k) =
    ⊎_elim
    (λ (h : k ≤ count (S k) n).
    ⊎_elim (λ (s : count (S k) n < count (S (suc k)) n). inl (omega (arith, h, s))) (λ (e, u). inr (k, omega arith, u))
    (grows n (S k) (S (suc k)) (more k)))
    (λ (j, l, u). inr (j, omega (arith, l), u))
    (stages n S more k)

-- r is among f 0 to f (m - 1)
among : (ℕ → ℕ) → ℕ → ℕ → Bool
among f zero r = false
among f (suc m) r = eqb (f m) r || among f m r

among-place : (f : ℕ → ℕ) (m r : ℕ) → among f m r ≡ true → (i : ℕ) × (i < m) × (f i ≡ r)
unfolding among
among-place f zero r h = absurd (false≢true h)
among-place f (suc m) r h =
    ⊎_elim (λ e. (m, omega arith, eqb-true _ _ e)) (λ t. let (i, l, e) = among-place f m r t in (i, omega (arith, l), e)) (either (eqb (f m) r) (among f m r) h)

-- n numbers below n, no two alike, are all of them
pub onto : (n : ℕ) (f : ℕ → ℕ) → ((i : ℕ) → i < n → f i < n) → ((i j : ℕ) → i < n → j < n → f i ≡ f j → i ≡ j)
    → (r : ℕ) → r < n → (i : ℕ) × (i < n) × (f i ≡ r)
unfolding among
onto n f inside once r l =
    among-place f n r
    (⊎_elim (λ h. count-full n (among f n) h r l) (λ (j, m, u). absurd (new j m (u (f j) (inside j m) (rw (eq-eqb (f j) (f j) refl)))))
    (stages n (among f) (λ k i m t. rw (t, or-true)) n))
  where
    new : (j : ℕ) → j < n → among f j (f j) ≡ true → ⊥
    new j m t = let (i, s, e) = among-place f j (f j) t in let q : i ≡ j = once i j (omega (arith, s, m)) m e in omega (arith, q, s)
