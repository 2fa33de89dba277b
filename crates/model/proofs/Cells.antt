-- The laws of runs on a stack of cells, on rule numbers alone. A step grows the run on top or begins one, so a run on top is
-- always from some a to a v properly below it; by depths, the rule one above v is the one that the step began at. So a step
-- is undone by shrinking: every move is local.
-- Assumes nothing.
use Prim.Native.Nat.{ℕ, suc, ◌+◌, ◌-◌, ◌≤◌, ◌<◌}
use native.Mathlib.Omega.{arith}
use mathlib.Core.Path.{◌≡◌, refl, ap, ◌∙◌}
use mathlib.Core.Bool.{Bool, true, false}
use mathlib.Core.List.{[], ◌∷◌}
use Rattle.std.specs.Prelude.{Some}
use lib.Dec.{T, eqb, leb, leb→le, le→leb, eqb→eq, eqb_refl}
use Rattle.forest.specs.Place.{Cells, Side, cell_row, cell_spine, cell_run, step}
use Rattle.forest.specs.Sides.{other}
use Rattle.forest.proofs.Cases.{by_bool, is_true}
use Rattle.model.specs.Facts.{Facts}
use Rattle.model.specs.Model.{along, one_above, outer, standing, pop_run, run, shrunk, turned, beside_top, below_row}

pub is_false : (b : Bool) → (T b → ⊥) → b ≡ false
is_false true f = absurd (f tt)
is_false false f = refl

-- one step of side s leads from rule a to rule v
pub record Steps (F : Facts) (s : Side) (a v : ℕ) : Type 0 where
  pub leads : F.toward s a ≡ v
  pub deep : F.depth s a ≡ suc (F.depth s v)
  pub ends : F.last s a ≡ F.last s v
  pub leaf : F.depth s v ≡ 0 → F.last s v ≡ v

-- the last cell says that rule v stands there
pub data Top (F : Facts) : ℕ → Cells → Type 0 where
  at_row : {d v : ℕ} {t : Cells} → Top F v ((cell_row, d, v, 0) ∷ t)
  at_run : {a v : ℕ} {t : Cells} (s : Side) (j : ℕ) → along F s (suc j) a ≡ v → F.depth s a ≡ suc j + F.depth s v → Top F v ((cell_run s, a, v, 0) ∷ t)
  at_spine : {a v : ℕ} {t : Cells} → outer F a ≡ v → Top F v ((cell_spine, a, 0, 0) ∷ t)

-- the kind of the last cell, 0 above the forest
unfoldable pub top_kind : Cells → ℕ
top_kind [] = 0
top_kind (c ∷ cs) = c.0

-- a step of side s from rule a begins a run on cs, or grows the run on top
pub data Grows (F : Facts) (s : Side) (a : ℕ) : Cells → Type 0 where
  begins : {cs : Cells} → eqb (top_kind cs) (cell_run s) ≡ false → Grows F s a cs
  grows : {x : ℕ} {t : Cells} (j : ℕ) → along F s (suc j) x ≡ a → F.depth s x ≡ suc j + F.depth s a → Grows F s a ((cell_run s, x, a, 0) ∷ t)

pub eqb_same : (n : ℕ) → eqb n n ≡ true
eqb_same n = is_true (eqb n n) (eqb_refl n)

pub step-begins : (s : Side) (a b : ℕ) (cs : Cells) → eqb (top_kind cs) (cell_run s) ≡ false → step s a b cs ≡ (cell_run s, a, b, 0) ∷ cs
unfolding top_kind step
step-begins s a b [] u = refl
step-begins s a b (c ∷ cs) u = rw u

pub step-grows : (s : Side) (a b x y : ℕ) (t : Cells) → step s a b ((cell_run s, x, y, 0) ∷ t) ≡ (cell_run s, x, b, 0) ∷ t
unfolding step
step-grows s a b x y t = rw eqb_same

pub top_kind-step : (s : Side) (a b : ℕ) (cs : Cells) → top_kind (step s a b cs) ≡ cell_run s
unfolding top_kind step
top_kind-step s a b [] = refl
top_kind-step s a b (c ∷ cs) = by_bool (eqb c.0 (cell_run s)) (λ u. rw u (eqb→eq c.0 (cell_run s) (rw u tt))) (λ u. rw u refl)

pub top-grows : (F : Facts) (s : Side) (a : ℕ) (cs : Cells) → Top F a cs → Grows F s a cs
unfolding top_kind cell_run
top-grows F Side.left a cs at_row = begins refl
top-grows F Side.left a cs (at_spine o) = begins refl
top-grows F Side.left a cs (at_run Side.left j e d) = grows j e d
top-grows F Side.left a cs (at_run Side.right j e d) = begins refl
top-grows F Side.right a cs at_row = begins refl
top-grows F Side.right a cs (at_spine o) = begins refl
top-grows F Side.right a cs (at_run Side.left j e d) = begins refl
top-grows F Side.right a cs (at_run Side.right j e d) = grows j e d

-- after a step the last cell says where it led
pub top-step : (F : Facts) (s : Side) (a v : ℕ) (cs : Cells) → Top F a cs → Steps F s a v → Top F v (step s a v cs)
unfolding along
top-step F s a v cs h g = go cs (top-grows F s a cs h)
  where
    go : (cs : Cells) → Grows F s a cs → Top F v (step s a v cs)
    go cs (begins h) = rw (step-begins s a v cs h) (at_run s 0 g.leads (omega (arith, g.deep)))
    go cs (grows {x} {t} j e d) = rw step-grows (at_run s (suc j) (ap (F.toward s) e ∙ g.leads) (omega (arith, g.deep)))

-- the rule of a place is read off its last cell
pub top-standing : (F : Facts) (v : ℕ) (cs : Cells) → Top F v cs → standing F cs ≡ v
unfolding standing cell_run
top-standing F v cs at_row = refl
top-standing F v cs (at_run Side.left j e d) = refl
top-standing F v cs (at_run Side.right j e d) = refl
top-standing F v cs (at_spine o) = o

leb-true : (m n : ℕ) → m ≤ n → leb m n ≡ true
leb-true m n h = is_true (leb m n) (le→leb m n h)

leb-false : (m n : ℕ) → n < m → leb m n ≡ false
leb-false m n h = is_false (leb m n) (λ t. let k = leb→le m n t in omega arith)

-- the rule one above the end of a run to which a step led is the one that it began at, and the run shrinks to what it was
module _ (F : Facts) (s : Side) (a v : ℕ) (g : Steps F s a v) where
  above-one : one_above F s a v ≡ a
  unfolding one_above along
  above-one = rw (let e : F.depth s a - suc (F.depth s v) ≡ 0 = omega (arith, g.deep) in e)

  above_more : (x j : ℕ) → along F s (suc j) x ≡ a → F.depth s x ≡ suc j + F.depth s a → one_above F s x v ≡ a
  unfolding one_above
  above_more x j e d = rw (let k : F.depth s x - suc (F.depth s v) ≡ suc j = omega (arith, g.deep) in k) e

  shrunk-one : (cs : Cells) → shrunk F s ((cell_run s, a, v, 0) ∷ cs) ≡ cs
  unfolding shrunk
  shrunk-one cs = rw (leb-true (F.depth s a) (suc (F.depth s v)) (omega (arith, g.deep)))

  shrunk-more : (cs : Cells) (x j : ℕ) → along F s (suc j) x ≡ a → F.depth s x ≡ suc j + F.depth s a → shrunk F s ((cell_run s, x, v, 0) ∷ cs) ≡ (cell_run s, x, a, 0) ∷ cs
  unfolding shrunk
  shrunk-more cs x j e d = rw (leb-false (F.depth s x) (suc (F.depth s v)) (omega (arith, g.deep)), above_more x j e d)

  -- a step is undone by shrinking
  pub shrunk-step : (cs : Cells) → Top F a cs → shrunk F s (step s a v cs) ≡ cs
  shrunk-step cs h = go cs (top-grows F s a cs h)
    where
      go : (cs : Cells) → Grows F s a cs → shrunk F s (step s a v cs) ≡ cs
      go cs (begins h) = rw (step-begins s a v cs h) (shrunk-one cs)
      go cs (grows {x} {t} j e d) = rw step-grows (shrunk-more t x j e d)

-- the step of a place on the other side is turned
beside_top-run : (F : Facts) (s : Side) (x y : ℕ) (t : Cells) → beside_top F s ((cell_run (other s), x, y, 0) ∷ t) ≡ Some (turned F s (one_above F (other s) x y) (shrunk F (other s) ((cell_run (other s), x, y, 0) ∷ t)))
unfolding beside_top
beside_top-run F s x y t = rw eqb_same

pop_run-other : (s : Side) (x y : ℕ) (t : Cells) → pop_run s ((cell_run (other s), x, y, 0) ∷ t) ≡ (cell_run (other s), x, y, 0) ∷ t
unfolding pop_run cell_run other
pop_run-other Side.left x y t = refl
pop_run-other Side.right x y t = refl

pub turned-step : (F : Facts) (s : Side) (a v : ℕ) (cs : Cells) → Top F a cs → Steps F (other s) a v → beside_top F s (pop_run s (step (other s) a v cs)) ≡ Some (turned F s a cs)
turned-step F s a v cs h g = go cs (top-grows F (other s) a cs h)
  where
    go : (cs : Cells) → Grows F (other s) a cs → beside_top F s (pop_run s (step (other s) a v cs)) ≡ Some (turned F s a cs)
    go cs (begins h) = rw (step-begins (other s) a v cs h, pop_run-other, beside_top-run, above-one F (other s) a v g, shrunk-one F (other s) a v g)
    go cs (grows {x} {t} j e d) =
        rw (step-grows, pop_run-other, beside_top-run, above_more F (other s) a v g x j e d, shrunk-more F (other s) a v g t x j e d)

-- steps to the same side: a run of that direction is dropped whole, and grows to its end
pub pop_run-step : (s : Side) (a v : ℕ) (cs : Cells) → pop_run s (step s a v cs) ≡ pop_run s cs
unfolding pop_run step
pop_run-step s a v [] = rw eqb_same
pop_run-step s a v (c ∷ cs) = by_bool (eqb c.0 (cell_run s)) (λ u. rw u (rw u)) (λ u. rw u (rw eqb_same))

step-step : (s : Side) (a v x y : ℕ) (cs : Cells) → step s x y (step s a v cs) ≡ step s a y cs
unfolding step
step-step s a v x y [] = rw eqb_same
step-step s a v x y (c ∷ cs) = by_bool (eqb c.0 (cell_run s)) (λ u. rw u (rw u)) (λ u. rw u (rw eqb_same))

pub run_step : (F : Facts) (s : Side) (a v : ℕ) (cs : Cells) → Steps F s a v → run F s v (step s a v cs) ≡ run F s a cs
unfolding run
run_step F s a v cs g =
    rw (is_false (eqb (F.depth s a) 0) (λ t. let z = eqb→eq (F.depth s a) 0 t in omega (arith, g.deep)), g.ends)
    (by_bool (eqb (F.depth s v) 0)
    (λ u. rw (u, g.leaf (eqb→eq (F.depth s v) 0 (rw u tt))))
    (λ u. rw u (step-step s a v v (F.last s v) cs)))

-- the opening of the row does not depend on steps
run-no-row : (s : Side) → eqb (cell_run s) cell_row ≡ false
unfolding cell_run
run-no-row Side.left = refl
run-no-row Side.right = refl

pub below_row-step : (s : Side) (a v : ℕ) (cs : Cells) → below_row (step s a v cs) ≡ below_row cs
unfolding below_row step
below_row-step s a v [] = rw run-no-row
below_row-step s a v (c ∷ cs) = by_bool (eqb c.0 (cell_run s)) (λ u. rw u refl) (λ u. rw u (rw run-no-row))
