-- A plan and what is lent with it, judged: by the answer what stands behind it is known, and what of the work is left. Assumes nothing.
use Rattle.std.specs.Prelude.{Result, Ok, Err}
use Prim.Native.Nat.{ℕ, ◌+◌, ◌*◌, ◌/◌, ◌≤◌}
use native.Mathlib.Omega.{arith}
use mathlib.Core.Path.{◌≡◌, refl, sym, subst, ◌∙◌}
use mathlib.Core.Bool.{Bool, true, false, cond, and-eq-true_iff}
use mathlib.Core.List.{List}
use lib.ListN.{length}
use borrow.Author.Tests.{leb-true}
use Rattle.refusal.specs.declared.Refusal.{Refusal}
use Rattle.plan.specs.declared.Checked.{Checked}
use Rattle.plan.specs.Check.{checked}
use Rattle.record.specs.Format.{word_length}
use Rattle.plan.proofs.Parts.{same-parts}
use Rattle.forest.specs.Outcome.{work_words, enough_work, cleared, work_after}
use Rattle.forest.specs.Walk.{cursor_words, enough_place, lent_judged}
use Rattle.work_rows.specs.Rows.{work_length, Within}
use Rattle.work_rows.proofs.Work.{enough-room, enough-words, work-refused, work-lent, work-cleared}
use Rattle.walk_lent.specs.Judged.{Judged}

-- a refusal accepts nothing
refused-not : {why : Refusal} {n start : ℕ} → ◌≡◌ {A = Result Checked Refusal} (Err why) (Ok (record { n = n; start = start })) → ⊥
refused-not e = let z : ◌≡◌ {A = ℕ} 0 1 = cc in omega arith

module _ (work cursor : List ℕ) where
  -- 8, behind check
  pub judged-enough : {x : Result Checked Refusal} {n start : ℕ} → x ≡ Ok (record { n = n; start = start }) → enough_place work cursor n ≡ true
      → (Ok (record { n = n; start = start })) ≡ lent_judged work cursor x
  unfolding lent_judged
  judged-enough q e = rw (q, e)

  pub judged-lent : {x : Result Checked Refusal} {n start : ℕ} → x ≡ Ok (record { n = n; start = start }) → enough_place work cursor n ≡ false
      → Err Refusal.Lent ≡ lent_judged work cursor x
  unfolding lent_judged
  judged-lent q e = rw (q, e)

  pub judged-refused : {x : Result Checked Refusal} {why : Refusal} → x ≡ Err why → Err why ≡ lent_judged work cursor x
  unfolding lent_judged
  judged-refused q = rw q

  -- nothing is turned down
  record Passed (x : Result Checked Refusal) (n start : ℕ) : Type 0 where
    accepted : x ≡ Ok (record { n = n; start = start })
    enough : enough_place work cursor n ≡ true

  passed : (x : Result Checked Refusal) {n start : ℕ} → lent_judged work cursor x ≡ Ok (record { n = n; start = start }) → Passed x n start
  unfolding lent_judged
  passed (Ok x) {n} {start} q = go (enough_place work cursor x.n) refl q
    where
      go : (t : Bool) → enough_place work cursor x.n ≡ t → cond t (Ok x) (Err Refusal.Lent) ≡ Ok (record { n = n; start = start })
          → Passed (Ok x) n start
      go true e p = let same = (same-parts p).0 in record { accepted = p; enough = subst (λ (k : ℕ). enough_place work cursor k ≡ true) same e }
      go false e p = absurd (refused-not p)
  passed (Err why) q = absurd (refused-not q)

  -- turned down, the work stays
  pub work-kept : (x : Result Checked Refusal) {why : Refusal} → lent_judged work cursor x ≡ Err why → work ≡ work_after (enough_place work cursor) x work
  unfolding lent_judged
  work-kept (Ok x) {why} q = go (enough_place work cursor x.n) refl q
    where
      go : (t : Bool) → enough_place work cursor x.n ≡ t → cond t (Ok x) (Err Refusal.Lent) ≡ Err why
          → work ≡ work_after (enough_place work cursor) (Ok x) work
      go true e p = absurd (refused-not (sym p))
      go false e p = work-lent (enough_place work cursor) (Ok x) work x.n x.start refl e
  work-kept (Err r) q = work-refused (enough_place work cursor) (Err r) work r refl

module _ (s work cursor : List ℕ) {n start : ℕ} (q : lent_judged work cursor (checked s) ≡ Ok (record { n = n; start = start })) where
  -- what 8 gives
  pub judged : Judged s n start work cursor
  unfolding enough_place cursor_words
  judged =
      let p = passed work cursor (checked s) q in
      let both = (and-eq-true_iff (enough_work n work) _).0 p.enough in
      let far : 16 * (n + 1) ≤ length cursor / 2 = leb-true _ _ both.1 in
      record { accepted = p.accepted; worked = enough-room n work both.0; words = enough-words n work both.0; room = omega arith }

  -- past 8 the work is cleared
  pub work-left : {t u : List ℕ} → Within 0 (work_length * n) work t → u ≡ cleared (word_length * work_words n) t
      → u ≡ work_after (enough_place work cursor) (checked s) work
  work-left {t} w p =
      let l = passed work cursor (checked s) q in
      p ∙ work-cleared (enough_place work cursor) (checked s) work n start l.accepted l.enough t w
