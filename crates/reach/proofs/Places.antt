-- What holds of the rules at the first places of an order: it holds of every rule that the next one names, since those stand before it, and
-- once it holds at all places it holds of all rules. Assumes nothing.
use Prim.Native.Nat.{ℕ, ◌+◌, ◌<◌}
use mathlib.Core.List.{List}
use mathlib.Core.Path.{◌≡◌, sym, subst}
use native.Mathlib.Decide.{dec_lt}
use native.Mathlib.Omega.{arith}
use lib.Dec.{ltb, ltb→lt}
use lib.ListN.{length, get_or}
use Rattle.rule.specs.declared.Rule.{Rule}
use Rattle.rule.specs.Names.{Names}
use Rattle.rule.specs.Sound.{rule}
use Rattle.rule.proofs.Names.{every-named}
use Rattle.reach.specs.Order.{Ranged, Orders}

-- P holds of the rules at the first i places
abbrev pub AtFirst : List ℕ → ℕ → (ℕ → Type 0) → Type 0
AtFirst o i P = (j : ℕ) → j < i → P (get_or o j 0)

pub first-none : (o : List ℕ) (P : ℕ → Type 0) → AtFirst o 0 P
first-none o P j l = absurd (omega (arith, l))

-- two rules are the same or not
same_or : {A : Type 0} (a b : ℕ) → (a ≡ b → A) → ((a ≡ b → ⊥) → A) → A
same_or {A} a b f g =
    elim (dec_lt a b) as (λ (d : Dec (a < b)). A) [
      | yes l ↦ g (λ e. omega arith)
      | no l ↦ elim (dec_lt b a) as (λ (d : Dec (b < a)). A) [
        | yes m ↦ g (λ e. omega arith)
        | no m ↦ f (omega arith)
      ]
    ]

-- one place more: what the rule there has, where every other rule keeps what it had
pub first_more : (o : List ℕ) (i : ℕ) (P Q : ℕ → Type 0) → ((k : ℕ) → (k ≡ get_or o i 0 → ⊥) → P k → Q k) → Q (get_or o i 0) → AtFirst o i P
    → AtFirst o (i + 1) Q
first_more o i P Q keeps new h j l =
    same_or (get_or o j 0) (get_or o i 0) (λ e. subst Q (sym e) new)
    (λ ne. elim (dec_lt j i) as (λ (d : Dec (j < i)). Q (get_or o j 0)) [
      | yes under ↦ keeps (get_or o j 0) ne (h j under)
      | no over ↦ let e : j ≡ i = omega arith in subst (λ (m : ℕ). Q (get_or o m 0)) (sym e) new
    ])

module _ {R : List Rule} {o : List ℕ} (O : Orders R o) where
  -- the rules that the next one names stand at those places
  pub first-named : (P : ℕ → Type 0) (i : ℕ) → Ranged R → i < length R → AtFirst o i P → (k : ℕ) → Names (rule R (get_or o i 0)) k → P k
  first-named P i ranged below h k m =
      let inside : get_or o i 0 < length R = O.inside i below in
      let small : k < length R = ltb→lt k (length R) (every-named (λ x. ltb x (length R)) m (ranged (get_or o i 0) inside)) in
      let earlier : O.place k < O.place (get_or o i 0) = O.after (get_or o i 0) k inside m in
      let here : O.place (get_or o i 0) ≡ i = O.once i below in
      subst P (O.there k small) (h (O.place k) (omega arith))

  -- every rule stands at some place
  pub first-all : (P : ℕ → Type 0) → AtFirst o (length R) P → (k : ℕ) → k < length R → P k
  first-all P h k below = subst P (O.there k below) (h (O.place k) (O.placed k below))
