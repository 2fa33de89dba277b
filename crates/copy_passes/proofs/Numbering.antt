-- What the second pass writes: at the number of a marked place stands the rule of that place, renamed, and every number is that of a
-- marked place. A number is a count of marked places, and grows from a marked place to any later one. Assumes nothing.
use Prim.Native.Nat.{ℕ, zero, suc, ◌≤◌, ◌<◌}
use native.Mathlib.Omega.{arith}
use native.Mathlib.Decide.{dec_lt}
use mathlib.Core.Bool.{Bool, true, cond}
use mathlib.Core.List.{List, [], ◌∷◌, ◌++◌}
use mathlib.Core.Path.{◌≡◌, refl, sym, ap, ◌∙◌}
use lib.ListN.{length, get_or, length-append, get_or-append}
use Rattle.rule.specs.declared.Rule.{Rule}
use Rattle.rule.specs.Sound.{rule}
use Rattle.reach.specs.Order.{count}
use Rattle.forest.proofs.Cases.{by_bool}
use Rattle.copy_passes.specs.Passes.{renamed, written_up}

-- counts only grow, and past a number that passes they are larger
pub count-grows : (p : ℕ → Bool) (i n : ℕ) → i ≤ n → count p i ≤ count p n
unfolding count
count-grows p i zero l = let e : i ≡ 0 = omega (arith, l) in rw e (omega arith)
count-grows p i (suc n) l =
    elim (dec_lt n i) as (λ (d : Dec (n < i)). count p i ≤ cond (p n) (suc (count p n)) (count p n)) [
      | yes above ↦ let e : i ≡ suc n = omega (arith, above, l) in rw e (omega arith)
      | no below ↦ let h : count p i ≤ count p n = count-grows p i n (omega (arith, below)) in by_bool (p n) (λ u. rw u (omega (arith, h))) (λ u. rw u h)
    ]

pub count_past : (p : ℕ → Bool) (i n : ℕ) → i < n → p i ≡ true → count p i < count p n
unfolding count
count_past p i n l e = let h : count p (suc i) ≤ count p n = count-grows p (suc i) n l in rw e at h

-- every number below the count is that of some number that passes
pub count-find : (p : ℕ → Bool) (n j : ℕ) → j < count p n → (i : ℕ) × (i < n) × (p i ≡ true) × (count p i ≡ j)
unfolding count
count-find p zero j l = absurd (omega (arith, l))
count-find p (suc n) j l =
    elim (dec_lt j (count p n)) as (λ (d : Dec (j < count p n)). (i : ℕ) × (i < suc n) × (p i ≡ true) × (count p i ≡ j)) [
      | yes low ↦ let (i, h, e, q) = count-find p n j low in (i, omega (arith, h), e, q)
      | no high ↦ by_bool (p n) (λ u. let h : j < suc (count p n) = rw u at l in (n, omega arith, u, omega (arith, h, high))) (λ u. let h : j < count p n = rw u at l in absurd (high h))
    ]

-- the last element
get_d-last : {A : Type 0} (l : List A) (x d : A) → get_or (l ++ (x ∷ [])) (length l) d ≡ x
get_d-last [] x d = refl
get_d-last (y ∷ l) x d = get_d-last l x d

module _ (R : List Rule) (order : ℕ → ℕ) (mark : ℕ → Bool) (num : ℕ → ℕ) where
  abbrev marked : ℕ → Bool
  marked i = mark (order i)

  abbrev up_to : ℕ → List Rule
  up_to = written_up R order mark num

  pub written-length : (i : ℕ) → length (up_to i) ≡ count marked i
  unfolding written_up count
  written-length zero = refl
  written-length (suc i) =
      by_bool (marked i)
      (λ u. rw (u, length-append (up_to i) (renamed num (rule R (order i)) ∷ []), written-length i) (omega arith))
      (λ u. rw u (written-length i))

  pub written-rule : (i p : ℕ) → p < i → marked p ≡ true → rule (up_to i) (count marked p) ≡ renamed num (rule R (order p))
  unfolding written_up rule
  written-rule zero p l e = absurd (omega (arith, l))
  written-rule (suc i) p l e =
      elim (dec_lt p i) as (λ (d : Dec (p < i)). rule (up_to (suc i)) (count marked p) ≡ renamed num (rule R (order p))) [
        | yes low ↦ let h = written-rule i p low e in
            let in-front : count marked p < length (up_to i) = rw (written-length i) (count_past marked p i low e) in
            by_bool (marked i) (λ u. rw u (get_or-append (up_to i) (renamed num (rule R (order i)) ∷ []) Rule.Empty (count marked p) in-front ∙ h)) (λ u. rw u h)
        | no here ↦ let q : p ≡ i = omega (arith, l, here) in
            let u : marked i ≡ true = ap marked (sym q) ∙ e in
            rw (u, q, sym (written-length i)) (get_d-last (up_to i) (renamed num (rule R (order i))) Rule.Empty)
      ]
