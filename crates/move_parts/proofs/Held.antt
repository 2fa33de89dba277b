-- What the cells of a cursor name has rows: the cell on top, fewer cells, and a run that is to turn. Assumes nothing.
use Prim.Native.Nat.{ℕ, zero, suc, ◌≤◌, ◌<◌}
use native.Mathlib.Omega.{arith}
use mathlib.Core.Path.{◌≡◌, sym, ◌∙◌}
use mathlib.Core.List.{List}
use native.Mathlib.Decide.{dec_lt}
use Rattle.forest.specs.Place.{Cell, Side}
use Rattle.forest.specs.Sides.{other}
use Rattle.forest.specs.Walk.{cell_at, cells_in}
use Rattle.facts.specs.Facts.{In}
use Rattle.facts.proofs.Closes.{above-has}
use Rattle.move_parts.specs.Moves.{Each, Fits, Held, Turns, above_top}
use Rattle.place_cells.proofs.Stack.{run-no-row}

-- the cell on top, and fewer cells
each-top : (P : Cell → Type 0) (s : List ℕ) (k : ℕ) → 0 < k → Each P (cells_in s k) → P (cell_at s k)
unfolding Each cells_in
each-top P s zero h e = absurd (omega arith)
each-top P s (suc k) h e = e.0

each-less : (P : Cell → Type 0) (s : List ℕ) (k j : ℕ) → j ≤ k → Each P (cells_in s k) → Each P (cells_in s j)
unfolding Each cells_in
each-less P s zero j h e = let z : j ≡ 0 = omega arith in rw z tt
each-less P s (suc k) j h e =
    elim (dec_lt k j) as (λ (d : Dec (k < j)). Each P (cells_in s j)) [
      | yes over ↦ let z : j ≡ suc k = omega arith in rw z e
      | no under ↦ each-less P s k j (omega arith) e.1
    ]

pub held-top : {t s : List ℕ} {k : ℕ} → Held t s k → 0 < k → Fits (In t) (cell_at s k)
held-top {t} {s} {k} h some = each-top (Fits (In t)) s k some h.cells

pub held-less : {t s : List ℕ} {k : ℕ} → Held t s k → (j : ℕ) → j ≤ k → Held t s j
held-less {t} {s} {k} h j less = record { rows = h.rows; climbs = h.climbs; lies = omega arith; cells = each-less (Fits (In t)) s k j less h.cells }

-- the rules of a run on top that is to turn
pub turns-one : {t s : List ℕ} {k : ℕ} {d : Side} → Turns t s k d → In t (cell_at s k).1
turns-one {d = d} h = (held-top h.held h.some).one (λ q. run-no-row (other d) (sym h.kind ∙ q))

pub turns-two : {t s : List ℕ} {k : ℕ} {d : Side} → Turns t s k d → In t (cell_at s k).2
turns-two h = (held-top h.held h.some).two

pub turns-above : {t s : List ℕ} {k : ℕ} {d : Side} → Turns t s k d → In t (above_top t s k d)
turns-above {t} {s} {k} {d} h = above-has h.held.rows (other d) (cell_at s k).1 (cell_at s k).2 (turns-one h)
