-- Laws of a stack of cells: reading it from the top, and that a step grows the run on top or begins one. After a step to one
-- side a run to the other is a cell of its own, so that a stack is put together cell by cell.
-- Assumes nothing.
use Prim.Native.Nat.{ℕ, zero, suc, ◌+◌, ◌-◌, ◌≤◌, ◌<◌}
use native.Mathlib.Omega.{arith}
use native.Mathlib.Decide.{dec_lt}
use mathlib.Core.Path.{◌≡◌, refl, sym, ap, ◌∙◌}
use mathlib.Core.Bool.{true, false}
use mathlib.Core.List.{List, [], ◌∷◌}
use lib.Dec.{eqb}
use borrow.Author.Tests.{eq-eqb, ne_eqb}
use Rattle.std.specs.Prelude.{Some, None}
use Rattle.forest.specs.Place.{Cell, Cells, Side, cell_row, cell_run, step}
use Rattle.forest.specs.Sides.{other}
use Rattle.forest.specs.Walk.{cell_at, cells_in}
use Rattle.model.specs.Facts.{Facts}
use Rattle.model.specs.Model.{tail, along, one_above, run}
use Rattle.forest.proofs.Cases.{by_bool}
use Rattle.model.proofs.Cells.{top_kind, top_kind-step, step-begins}
use Rattle.place_cells.specs.declared.Cell.{Cell as Words}
use Rattle.place_cells.specs.Cells.{words, cell, run_cell}
use Rattle.place_cells.specs.Changes.{add}

-- cells 1 to k from the top
pub cells-none : (s : List ℕ) (k : ℕ) → k ≡ 0 → cells_in s k ≡ []
unfolding cells_in
cells-none s zero e = refl
cells-none s (suc k) e = absurd (omega arith)

pub cells-top : (s : List ℕ) (k : ℕ) → 0 < k → cells_in s k ≡ cell_at s k ∷ cells_in s (k - 1)
unfolding cells_in
cells-top s zero h = absurd (omega arith)
cells-top s (suc k) h = let e : k ≡ suc k - 1 = omega arith in ap (λ (j : ℕ). cell_at s (suc k) ∷ cells_in s j) e

-- without the top
pub tail-cells : (s : List ℕ) (k : ℕ) → tail (cells_in s k) ≡ cells_in s (k - 1)
unfolding tail cells_in
tail-cells s zero = refl
tail-cells s (suc k) = let e : k ≡ suc k - 1 = omega arith in ap (cells_in s) e

-- a cell's words, from the cell
pub top-kind : {x : Words} {c : Cell} → x ≡ cell c → x.kind ≡ c.0
top-kind e = ap (λ (y : Words). y.kind) e

pub top_one : {x : Words} {c : Cell} → x ≡ cell c → x.one ≡ c.1
top_one e = ap (λ (y : Words). y.one) e

pub top-two : {x : Words} {c : Cell} → x ≡ cell c → x.two ≡ c.2
top-two e = ap (λ (y : Words). y.two) e

-- a cell more, and none
pub add-some : (c : Words) (cs : Cells) → add (Some c) cs ≡ words c ∷ cs
unfolding add
add-some c cs = refl

pub add_none : (cs : Cells) → add None cs ≡ cs
unfolding add
add_none cs = refl

pub run-no-row : (d : Side) → cell_run d ≡ cell_row → ⊥
unfolding cell_run
run-no-row Side.left e = omega arith
run-no-row Side.right e = omega arith

pub add-run : (s : Side) (a b : ℕ) (cs : Cells) → add (Some (cell (cell_run s, a, b, 0))) cs ≡ (cell_run s, a, b, 0) ∷ cs
add-run s a b cs = add-some (cell (cell_run s, a, b, 0)) cs

-- runs to the two sides differ
pub apart : (s : Side) → eqb (cell_run s) (cell_run (other s)) ≡ false
unfolding cell_run other
apart Side.left = refl
apart Side.right = refl

pub apart-back : (s : Side) → eqb (cell_run (other s)) (cell_run s) ≡ false
unfolding cell_run other
apart-back Side.left = refl
apart-back Side.right = refl

-- a step grows the run to its side on top
pub step-grows : (s : Side) (a b : ℕ) (c : Cell) (cs : Cells) → eqb c.0 (cell_run s) ≡ true → step s a b (c ∷ cs) ≡ (c.0, c.1, b, c.3) ∷ cs
unfolding step
step-grows s a b c cs e = rw e

-- a step leaves no run to the other side on top
pub step-kind : (s : Side) (a b : ℕ) (cs : Cells) → eqb (top_kind (step s a b cs)) (cell_run (other s)) ≡ false
step-kind s a b cs = rw (top_kind-step s a b cs) (apart s)

-- the longest run from a rule is a cell of its own where no run to its side is on top
pub run-begins : (F : Facts) (s : Side) (a : ℕ) (cs : Cells) → eqb (top_kind cs) (cell_run s) ≡ false → add (run_cell F s a) cs ≡ run F s a cs
unfolding run_cell run
run-begins F s a cs e =
    by_bool (eqb (F.depth s a) 0)
    (λ u. rw u (add_none cs))
    (λ u. rw u (add-run s a (F.last s a) cs ∙ sym (step-begins s a (F.last s a) cs e)))

-- a run of one step has only its first rule above its last
pub above_first : (F : Facts) (s : Side) (a b : ℕ) → F.depth s a ≤ F.depth s b + 1 → one_above F s a b ≡ a
unfolding one_above along
above_first F s a b h =
    let e : F.depth s a - suc (F.depth s b) ≡ 0 = omega arith in
    ap (λ (j : ℕ). along F s j a) e

-- a step onto cells 1 to k
module _ (s : List ℕ) (k : ℕ) where
  begins-none : (d : Side) (a b : ℕ) → k ≡ 0 → add (Some (cell (cell_run d, a, b, 0))) (cells_in s k) ≡ step d a b (cells_in s k)
  unfolding top_kind step
  begins-none d a b e = rw (cells-none s k e) (add-run d a b [])

  begins-other : (d : Side) (a b : ℕ) → 0 < k → ((cell_at s k).0 ≡ cell_run d → ⊥) → add (Some (cell (cell_run d, a, b, 0))) (cells_in s k) ≡ step d a b (cells_in s k)
  unfolding top_kind
  begins-other d a b h e =
      rw (cells-top s k h) (add-run d a b (cell_at s k ∷ cells_in s (k - 1)) ∙ sym (step-begins d a b (cell_at s k ∷ cells_in s (k - 1)) (ne_eqb _ _ e)))

  pub begins : (d : Side) (a b : ℕ) → (0 < k → (cell_at s k).0 ≡ cell_run d → ⊥) → add (Some (cell (cell_run d, a, b, 0))) (cells_in s k) ≡ step d a b (cells_in s k)
  begins d a b e =
      elim (dec_lt 0 k) as (λ (z : Dec (0 < k)). add (Some (cell (cell_run d, a, b, 0))) (cells_in s k) ≡ step d a b (cells_in s k)) [
        | yes more ↦ begins-other d a b more (e more)
        | no none ↦ begins-none d a b (omega arith)
      ]

  pub grows-top : (d : Side) (a b : ℕ) → 0 < k → (cell_at s k).0 ≡ cell_run d
      → add (Some (cell ((cell_at s k).0, (cell_at s k).1, b, (cell_at s k).3))) (cells_in s (k - 1)) ≡ step d a b (cells_in s k)
  grows-top d a b h e =
      add-some (cell ((cell_at s k).0, (cell_at s k).1, b, (cell_at s k).3)) (cells_in s (k - 1))
      ∙ sym (rw (cells-top s k h) (step-grows d a b (cell_at s k) (cells_in s (k - 1)) (eq-eqb _ _ e)))
