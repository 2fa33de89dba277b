-- The states of the test of stored cells: their rules have rows, since a state names only what the facts of the rule before
-- name, or what a run has reached; and a state after a run, case by case.
-- Assumes nothing.
use Prim.Native.Nat.{ℕ, ◌-◌}
use mathlib.Core.Path.{◌≡◌, refl}
use mathlib.Core.Bool.{Bool, true, false, false≢true, cond, not, ◌&&◌, and-eq-true_iff}
use mathlib.Core.List.{[], ◌∷◌}
use Rattle.std.specs.Prelude.{Option, None, Some}
use lib.Dec.{eqb, ltb}
use borrow.Author.Tests.{eqb-true, eq-eqb, ne_eqb}
use Rattle.rule.specs.declared.Rule.{Rule}
use Rattle.forest.specs.Place.{Cell, Cells, Side, cell_row, cell_spine, cell_run, row_of_node, row_of_part}
use Rattle.model.specs.Facts.{Facts}
use Rattle.model.specs.Model.{along, outer, inner_of}
use Rattle.model.specs.Stored.{Form, State, form_of, row_under, row_in, after_row, is_that, spine_at, spine_in, reaches, kept_by, after_run, next, state_after, ends_well}
use Rattle.forest.proofs.Cases.{by_bool}
use Rattle.facts.specs.Closes.{Names, Closed}
use Rattle.place_check.specs.declared.State.{State as CodeState}
use Rattle.place_check.specs.States.{state_of, MaybeHas, StateHas, after_spine}
use Rattle.facts.proofs.Closes.{along-has, outer-has}

-- a test that fails with one of its parts
and-false : (p q : Bool) → q ≡ false → p && q ≡ false
and-false true q e = e
and-false false q e = refl

-- P of the rule that a test has found
module _ (P : ℕ → Type 0) where
  chosen : (b : Bool) (c : ℕ) → P c → MaybeHas P (cond b (Some c) None)
  unfolding MaybeHas
  chosen true c p = p
  chosen false c p = tt

  row-under-has : (x : Rule) (k d : ℕ) → Names P x → MaybeHas P (row_under x k d)
  unfolding MaybeHas Names row_under
  row-under-has Rule.Empty k d n = tt
  row-under-has (Rule.Pair b c) k d n = tt
  row-under-has (Rule.Node x c) k d n = chosen (eqb k cell_spine && eqb d row_of_node) c n
  row-under-has (Rule.Fill b c) k d n = tt
  row-under-has (Rule.Part x b c) k d n = by_bool (eqb d (row_of_part Side.left)) (λ u. rw u n.0) (λ u. rw u (chosen (eqb d (row_of_part Side.right)) c n.1))
  row-under-has (Rule.Join b c) k d n = tt

  inner-has : (x : Rule) → Names P x → MaybeHas P (inner_of x)
  unfolding MaybeHas Names inner_of
  inner-has Rule.Empty n = tt
  inner-has (Rule.Pair b c) n = tt
  inner-has (Rule.Node x c) n = tt
  inner-has (Rule.Fill b c) n = n.1
  inner-has (Rule.Part x b c) n = tt
  inner-has (Rule.Join b c) n = tt

  that-has : (o : Option ℕ) (a : ℕ) → MaybeHas P o → is_that o a ≡ true → P a
  unfolding MaybeHas is_that
  that-has None a m e = absurd (false≢true e)
  that-has (Some c) a m e = rw (eqb-true c a e) at m

  same-has : (p a : ℕ) (b : Bool) → P p → b && eqb p a ≡ true → P a
  same-has p a b h e = rw (eqb-true p a ((and-eq-true_iff b (eqb p a)).0 e).1) at h

  -- the tree whose spine may open
  pub spine-has : (x : Rule) (p k a : ℕ) (o : Option ℕ) → P p → MaybeHas P o → spine_at x p k o a ≡ true → P a
  unfolding spine_at
  spine-has Rule.Empty p k a o h m e = absurd (false≢true e)
  spine-has (Rule.Pair b c) p k a o h m e = absurd (false≢true e)
  spine-has (Rule.Node x c) p k a o h m e = same-has p a (not (eqb k cell_spine)) h e
  spine-has (Rule.Fill b c) p k a o h m e = same-has p a (not (eqb k cell_spine)) h e
  spine-has (Rule.Part x b c) p k a o h m e = that-has o a m e
  spine-has (Rule.Join b c) p k a o h m e = absurd (false≢true e)

module _ (F : Facts) (P : ℕ → Type 0) (h : Closed F P) where
  pub row-in-has : (r : ℕ) (st : State) (d : ℕ) → P r → StateHas P st → MaybeHas P (row_in F r st d)
  unfolding MaybeHas StateHas row_in
  row-in-has r State.above d p e = chosen P (eqb d row_of_node) r p
  row-in-has r (State.at q k o) d p e = row-under-has P (F.rule q) k d (h.names q e.0)
  row-in-has r State.wrong d p e = tt

  after-row-has : (o : Option ℕ) (v : ℕ) → MaybeHas P o → StateHas P (after_row F o v)
  unfolding MaybeHas StateHas after_row
  after-row-has None v m = tt
  after-row-has (Some x) v m =
      by_bool (eqb v (F.representative x)) (λ u. rw u (rw (eqb-true v (F.representative x) u) (h.represents x m), tt)) (λ u. rw u tt)

  opens-has : (st : State) (a : ℕ) → StateHas P st → spine_in F st a ≡ true → P a
  unfolding StateHas spine_in
  opens-has State.above a e q = absurd (false≢true q)
  opens-has (State.at p k o) a e q = spine-has P (F.rule p) p k a o e.0 e.1 q
  opens-has State.wrong a e q = absurd (false≢true q)

  after-spine-has : (st : State) (a : ℕ) → StateHas P st → StateHas P (after_spine F st a)
  unfolding StateHas after_spine
  after-spine-has st a e =
      by_bool (spine_in F st a)
      (λ u. rw u (let p = opens-has st a e u in (outer-has h a p, inner-has P (F.rule a) (h.names a p))))
      (λ u. rw u tt)

  -- what a run reaches
  pub reached_has : (s : Side) (a b : ℕ) → P a → reaches F s a b ≡ true → P b
  unfolding reaches
  reached_has s a b p e =
      let to = along F s (F.depth s a - F.depth s b) a in
      rw (eqb-true to b ((and-eq-true_iff (ltb (F.depth s b) (F.depth s a)) (eqb to b)).0 e).1) at (along-has h s (F.depth s a - F.depth s b) a p)

  pub unreached : (s : Side) (a b : ℕ) → P a → (P b → ⊥) → reaches F s a b ≡ false
  unreached s a b p n = by_bool (reaches F s a b) (λ u. absurd (n (reached_has s a b p u))) (λ u. u)

  kept-has : (s : Side) (o : Option ℕ) → MaybeHas P o → MaybeHas P (kept_by s o)
  unfolding MaybeHas kept_by
  kept-has Side.left o m = tt
  kept-has Side.right o m = m

  after-run-has : (st : State) (s : Side) (a b : ℕ) → StateHas P st → StateHas P (after_run F st s a b)
  unfolding StateHas after_run
  after-run-has State.above s a b e = tt
  after-run-has (State.at p k o) s a b e =
      let fresh = not (eqb k (cell_run s)) in
      by_bool (fresh && eqb p a && reaches F s a b)
      (λ u. rw u (reached_has s a b (same-has P p a fresh e.0 ((and-eq-true_iff (fresh && eqb p a) (reaches F s a b)).0 u).0) ((and-eq-true_iff (fresh && eqb p a) (reaches F s a b)).0 u).1, kept-has s o e.1))
      (λ u. rw u tt)
  after-run-has State.wrong s a b e = tt

  pub next-has : (r : ℕ) (st : State) (f : Form) → P r → StateHas P st → StateHas P (next F r st f)
  unfolding StateHas next after_spine
  next-has r st (Form.row d v) p e = after-row-has (row_in F r st d) v (row-in-has r st d p e)
  next-has r st (Form.spine a) p e = after-spine-has st a e
  next-has r st (Form.run s a b) p e = after-run-has st s a b e
  next-has r st Form.formless p e = tt

  pub after-has : (r : ℕ) (cs : Cells) → P r → StateHas P (state_after F r cs)
  unfolding StateHas state_after
  after-has r [] p = tt
  after-has r (c ∷ cs) p = next-has r (state_after F r cs) (form_of c) p (after-has r cs p)

-- a run, case by case: it follows a run of its side, begins elsewhere, reaches nothing, or fits
module _ (F : Facts) (p k : ℕ) (o : Option ℕ) (s : Side) (a b : ℕ) where
  pub run-again : k ≡ cell_run s → after_run F (State.at p k o) s a b ≡ State.wrong
  unfolding after_run
  run-again e = rw (eq-eqb _ _ e)

  pub run-elsewhere : (p ≡ a → ⊥) → after_run F (State.at p k o) s a b ≡ State.wrong
  unfolding after_run
  run-elsewhere e = rw (ne_eqb _ _ e, and-false (not (eqb k (cell_run s))) false refl)

  pub run_short : reaches F s a b ≡ false → after_run F (State.at p k o) s a b ≡ State.wrong
  unfolding after_run
  run_short e = rw (e, and-false (not (eqb k (cell_run s)) && eqb p a) false refl)

  pub run_fits : (k ≡ cell_run s → ⊥) → p ≡ a → reaches F s a b ≡ true → after_run F (State.at p k o) s a b ≡ State.at b (cell_run s) (kept_by s o)
  unfolding after_run
  run_fits u v w = rw (ne_eqb _ _ u, eq-eqb _ _ v, w)

-- a spine, by whether it may open
module _ (F : Facts) (st : State) (a : ℕ) where
  pub spine-opens : spine_in F st a ≡ true → after_spine F st a ≡ State.at (outer F a) cell_spine (inner_of (F.rule a))
  unfolding after_spine
  spine-opens e = rw e

  pub spine-shut : spine_in F st a ≡ false → after_spine F st a ≡ State.wrong
  unfolding after_spine
  spine-shut e = rw e

-- the form of a cell, by its words
module _ (c : Cell) where
  pub form-three : (c.3 ≡ 0 → ⊥) → form_of c ≡ Form.formless
  unfolding form_of
  form-three e = rw (ne_eqb _ _ e)

  module _ (zero : c.3 ≡ 0) where
    pub form-row : c.0 ≡ cell_row → form_of c ≡ Form.row c.1 c.2
    unfolding form_of
    form-row e = rw (eq-eqb _ _ zero, eq-eqb _ _ e)

    pub form-spine : c.0 ≡ cell_spine → c.2 ≡ 0 → form_of c ≡ Form.spine c.1
    unfolding form_of
    form-spine e q = rw (eq-eqb _ _ zero, e, eq-eqb _ _ q)

    pub form-two : c.0 ≡ cell_spine → (c.2 ≡ 0 → ⊥) → form_of c ≡ Form.formless
    unfolding form_of
    form-two e q = rw (eq-eqb _ _ zero, e, ne_eqb _ _ q)

    pub form-run : (s : Side) → c.0 ≡ cell_run s → form_of c ≡ Form.run s c.1 c.2
    unfolding form_of cell_run
    form-run Side.left e = rw (eq-eqb _ _ zero, e)
    form-run Side.right e = rw (eq-eqb _ _ zero, e)

    pub form-else : (c.0 ≡ cell_row → ⊥) → (c.0 ≡ cell_spine → ⊥) → (c.0 ≡ 3 → ⊥) → (c.0 ≡ 4 → ⊥) → form_of c ≡ Form.formless
    unfolding form_of cell_run
    form-else u v w x = rw (eq-eqb _ _ zero, ne_eqb _ _ u, ne_eqb _ _ v, ne_eqb _ _ w, ne_eqb _ _ x)

-- a state that is no rule's leads on to none
abbrev pub NotAt : CodeState → Type 0
NotAt x = (p k : ℕ) (o : Option ℕ) → x ≡ CodeState.At p k o → ⊥

pub other-after-spine : (F : Facts) (x : CodeState) (a : ℕ) → NotAt x → after_spine F (state_of x) a ≡ State.wrong
unfolding after_spine spine_in
other-after-spine F CodeState.Above a h = refl
other-after-spine F (CodeState.At p k o) a h = absurd (h p k o refl)
other-after-spine F CodeState.Wrong a h = refl

pub other-after-run : (F : Facts) (x : CodeState) (s : Side) (a b : ℕ) → NotAt x → after_run F (state_of x) s a b ≡ State.wrong
unfolding after_run
other-after-run F CodeState.Above s a b h = refl
other-after-run F (CodeState.At p k o) s a b h = absurd (h p k o refl)
other-after-run F CodeState.Wrong s a b h = refl

pub other-end : (F : Facts) (x : CodeState) → NotAt x → ends_well F (state_of x) ≡ false
unfolding ends_well
other-end F CodeState.Above h = refl
other-end F (CodeState.At p k o) h = absurd (h p k o refl)
other-end F CodeState.Wrong h = refl

-- P of the rules of a code's state
pub at_has : (P : ℕ → Type 0) {x : CodeState} {p k : ℕ} {o : Option ℕ} → x ≡ CodeState.At p k o → StateHas P (state_of x) → P p × MaybeHas P o
unfolding StateHas
at_has P e h = rw e at h
