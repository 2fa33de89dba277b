-- What the first pass marks: the start rule, all that a marked rule names, and nothing that the start rule doesn't reach. When a place is
-- passed its own mark is settled, since what is marked below it stands below it. Assumes nothing.
use Prim.Native.Nat.{ℕ, zero, suc, ◌≤◌, ◌<◌}
use native.Mathlib.Omega.{arith}
use native.Mathlib.Decide.{dec_lt}
use mathlib.Core.Bool.{Bool, true, cond, or-true, false≢true}
use mathlib.Core.List.{List}
use mathlib.Core.Logic.{◌⊎◌, inl, inr, ⊎_elim}
use mathlib.Core.Path.{◌≡◌, refl, sym, ap, ◌∙◌}
use lib.ListN.{length}
use lib.Dec.{eqb}
use borrow.Author.Tests.{eqb-true, eq-eqb}
use Rattle.rule.specs.declared.Rule.{Rule}
use Rattle.rule.specs.Names.{Names}
use Rattle.rule.specs.Sound.{rule}
use Rattle.reach.specs.Reaches.{Reaches, named, any_named}
use Rattle.reach.proofs.Named.{either, named-any, any-named}
use Rattle.reach.proofs.Steps.{reaches-extend}
use Rattle.forest.proofs.Cases.{by_bool}
use Rattle.copy_passes.specs.Passes.{Placing, mark_named, marks_down, marks}

-- what passes is marked still, and what x names is marked
mark-kept : (x : Rule) (mark : ℕ → Bool) (k : ℕ) → mark k ≡ true → mark_named x mark k ≡ true
unfolding mark_named
mark-kept x mark k e = rw e

mark-new : (x : Rule) (mark : ℕ → Bool) {k : ℕ} → Names x k → mark_named x mark k ≡ true
unfolding mark_named
mark-new x mark {k} m = rw (named-any (λ j. eqb j k) m (eq-eqb k k refl), or-true)

-- and nothing else
mark-only : (x : Rule) (mark : ℕ → Bool) (k : ℕ) → mark_named x mark k ≡ true → (mark k ≡ true) ⊎ Names x k
unfolding mark_named
mark-only x mark k e =
    ⊎_elim inl
    (λ s. let (j, m, t) = any-named (λ j. eqb j k) x s in let q : j ≡ k = eqb-true j k t in inr (rw q at m))
    (either (mark k) (any_named (λ j. eqb j k) x) e)

module _ (R : List Rule) (order : ℕ → ℕ) where
  -- one place passed
  passed : ℕ → (ℕ → Bool) → ℕ → Bool
  passed i mark = cond (mark (order i)) (mark_named (rule R (order i)) mark) mark

  passed-kept : (i : ℕ) (mark : ℕ → Bool) (k : ℕ) → mark k ≡ true → passed i mark k ≡ true
  unfolding passed
  passed-kept i mark k e = by_bool (mark (order i)) (λ u. rw u (mark-kept (rule R (order i)) mark k e)) (λ u. rw u e)

  passed-only : (i : ℕ) (mark : ℕ → Bool) (k : ℕ) → passed i mark k ≡ true → (mark k ≡ true) ⊎ ((mark (order i) ≡ true) × Names (rule R (order i)) k)
  unfolding passed
  passed-only i mark k = by_bool (mark (order i)) (λ u e. ⊎_elim inl (λ m. inr (u, m)) (mark-only (rule R (order i)) mark k (rw u at e))) (λ u e. inl (rw u at e))

  -- no mark is taken away
  pub down-kept : (i : ℕ) (mark : ℕ → Bool) (k : ℕ) → mark k ≡ true → marks_down R order i mark k ≡ true
  unfolding marks_down passed
  down-kept zero mark k e = e
  down-kept (suc i) mark k e = down-kept i (passed i mark) k (passed-kept i mark k e)

  -- what is closed under naming and holds of what is marked holds of all that gets marked
  pub down-only : (P : ℕ → Type 0) → ((r k : ℕ) → P r → Names (rule R r) k → P k) → (i : ℕ) (mark : ℕ → Bool)
      → ((k : ℕ) → mark k ≡ true → P k) → (k : ℕ) → marks_down R order i mark k ≡ true → P k
  unfolding marks_down passed
  down-only P f zero mark h k e = h k e
  down-only P f (suc i) mark h k e =
      down-only P f i (passed i mark) (λ j t. ⊎_elim (h j) (λ (s, m). f (order i) j (h (order i) s) m) (passed-only i mark j t)) k e

  module _ (place : ℕ → ℕ) (P : Placing R order place) where
    -- what stands at place i or above it gets no mark from places below i
    settled : (i : ℕ) (mark : ℕ → Bool) (k : ℕ) → i ≤ length R → i ≤ place k → marks_down R order i mark k ≡ true → mark k ≡ true
    unfolding marks_down passed
    settled zero mark k l h e = e
    settled (suc i) mark k l h e =
        ⊎_elim (λ t. t)
        (λ (s, m). let q : place k < place (order i) = P.after (order i) k (P.inside i l) m in absurd (omega (arith, q, h, P.once i l)))
        (passed-only i mark k (settled i (passed i mark) k (omega (arith, l)) (omega (arith, h)) e))

    -- the rule at place i, when that place is passed: if it is marked, what it names is
    passed-names : (i : ℕ) (mark : ℕ → Bool) (j : ℕ) → passed i mark (order i) ≡ true → Names (rule R (order i)) j → passed i mark j ≡ true
    unfolding passed
    passed-names i mark j =
        by_bool (mark (order i)) (λ u e m. rw u (mark-new (rule R (order i)) mark m)) (λ u e m. absurd (false≢true (sym u ∙ (rw u at e))))

    down-closed : (i : ℕ) (mark : ℕ → Bool) (k j : ℕ) → i ≤ length R → k < length R → place k < i
        → marks_down R order i mark k ≡ true → Names (rule R k) j → marks_down R order i mark j ≡ true
    unfolding marks_down passed
    down-closed zero mark k j l b h e m = absurd (omega (arith, h))
    down-closed (suc i) mark k j l b h e m =
        elim (dec_lt (place k) i) as (λ (d : Dec (place k < i)). marks_down R order i (passed i mark) j ≡ true) [
          | yes lower ↦ down-closed i (passed i mark) k j (omega (arith, l)) b lower e m
          | no here ↦ let p : place k ≡ i = omega (arith, h, here) in
              let q : k ≡ order i = sym (P.there k b) ∙ ap order p in
              down-kept i (passed i mark) j
              (passed-names i mark j (rw q at (settled i (passed i mark) k (omega (arith, l)) (omega (arith, p)) e)) (rw q at m))
        ]

    module _ (start : ℕ) where
      pub marks-start : marks R order start start ≡ true
      unfolding marks
      marks-start = down-kept (length R) _ start (eq-eqb start start refl)

      pub marks-named : (r k : ℕ) → r < length R → marks R order start r ≡ true → Names (rule R r) k → marks R order start k ≡ true
      unfolding marks
      marks-named r k h e m = down-closed (length R) _ r k (omega arith) h (P.placed r h) e m

      pub marks-reached : (k : ℕ) → marks R order start k ≡ true → (k ≡ start) ⊎ Reaches R start k
      unfolding marks
      marks-reached k e =
          down-only (λ k. (k ≡ start) ⊎ Reaches R start k)
          (λ r k h m. inr (⊎_elim (λ q. named (rw q at m)) (λ s. reaches-extend s m) h)) (length R) _ (λ k t. inl (eqb-true k start t)) k e
