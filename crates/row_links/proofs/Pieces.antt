-- Links and the pieces of a move: runs and spines leave links as they are, a row that opens makes two, and what is written before
-- links or behind cells keeps them. Assumes nothing.
use Prim.Native.Nat.{ℕ, zero, suc, ◌+◌, ◌-◌, ◌≤◌, ◌<◌}
use native.Mathlib.Omega.{arith}
use mathlib.Core.Path.{◌≡◌, refl, sym, ap, ◌∙◌}
use mathlib.Core.List.{List, [], ◌∷◌}
use lib.ListN.{length}
use lib.Dec.{eqb, leb}
use borrow.Author.Tests.{eqb-true, ne_eqb}
use Rattle.words.specs.Put.{put}
use Rattle.words.specs.Within.{Within}
use Rattle.words.proofs.Within.{within_both, within-number-put}
use Rattle.record.specs.Record.{word_length}
use Rattle.forest.specs.Place.{Cell, Cells, Side, cell_row, cell_spine, cell_run, step}
use Rattle.forest.specs.Sides.{other}
use Rattle.forest.specs.Walk.{cell_at, cells_in}
use Rattle.forest.proofs.Cases.{by_bool}
use Rattle.model.specs.Facts.{Facts}
use Rattle.model.specs.Model.{outer, run, shrunk, turned, opened, below_row}
use Rattle.work_rows.specs.Rows.{row_length}
use Rattle.place_cells.proofs.Stack.{cells-top, run-no-row}
use Rattle.place_cells.proofs.Writes.{length-cells}
use Rattle.row_links.specs.Links.{row_on, link_at, link, Linkable, RowLinks, Linked, opens_row}
use Rattle.row_links.proofs.Linking.{linked-after, linked-over, linked-row}

-- a cell that opens no row, taken off
pub unlinked : {t s : List ℕ} (c : Cell) (cs : Cells) → (c.0 ≡ cell_row → ⊥) → Linked t s (c ∷ cs) → Linked t s cs
unfolding row_on RowLinks
unlinked c cs n l = record { top = rw (ne_eqb _ _ n) at l.top; rows = l.rows.1 }

-- the pieces that open no row
pub linked-step : {t s : List ℕ} (d : Side) (a b : ℕ) (cs : Cells) → Linked t s cs → Linked t s (step d a b cs)
unfolding step
linked-step d a b [] l = linked-over _ _ (cell_run d, a, b, 0) [] (run-no-row d) l
linked-step d a b (c ∷ cs) l =
    by_bool (eqb c.0 (cell_run d))
    (λ u. rw u (let n : c.0 ≡ cell_row → ⊥ = λ q. run-no-row d (sym (eqb-true c.0 (cell_run d) u) ∙ q) in
    linked-over _ _ (c.0, c.1, b, c.3) cs n (unlinked c cs n l)))
    (λ u. rw u (linked-over _ _ (cell_run d, a, b, 0) (c ∷ cs) (run-no-row d) l))

pub linked-run : {t s : List ℕ} (F : Facts) (d : Side) (a : ℕ) (cs : Cells) → Linked t s cs → Linked t s (run F d a cs)
unfolding run
linked-run F d a cs l = by_bool (eqb (F.depth d a) 0) (λ u. rw u l) (λ u. rw u (linked-step d a (F.last d a) cs l))

pub linked-shrunk : {t s : List ℕ} (F : Facts) (d : Side) (c : Cell) (cs : Cells) → (c.0 ≡ cell_row → ⊥) → Linked t s (c ∷ cs)
    → Linked t s (shrunk F d (c ∷ cs))
unfolding shrunk
linked-shrunk F d c cs n l =
    by_bool (leb (F.depth d c.1) (suc (F.depth d c.2)))
    (λ u. rw u (unlinked c cs n l))
    (λ u. rw u (linked-over _ _ _ cs n (unlinked c cs n l)))

pub linked-turned : {t s : List ℕ} (F : Facts) (d : Side) (v : ℕ) (c : Cell) (cs : Cells) → (c.0 ≡ cell_row → ⊥) → Linked t s (c ∷ cs)
    → Linked t s (turned F d v (shrunk F (other d) (c ∷ cs))).1
unfolding turned
linked-turned F d v c cs n l =
    linked-run F (other d) (F.toward d v) (step d v (F.toward d v) (shrunk F (other d) (c ∷ cs)))
    (linked-step d v (F.toward d v) (shrunk F (other d) (c ∷ cs)) (linked-shrunk F (other d) c cs n l))

pub linked-turn : {t s : List ℕ} (F : Facts) (d e : Side) (v k : ℕ) → 0 < k → (cell_at s k).0 ≡ cell_run e → Linked t s (cells_in s k)
    → Linked t s (turned F d v (shrunk F (other d) (cells_in s k))).1
linked-turn {t} {s} F d e v k some q l =
    rw (cells-top s k some)
    (linked-turned F d v (cell_at s k) (cells_in s (k - 1)) (λ z. run-no-row e (sym q ∙ z)) (rw (cells-top s k some) at l))

pub linked-opened : {t s : List ℕ} (F : Facts) (a : ℕ) (cs : Cells) → Linked t s cs → Linked t s (opened F a cs).1
unfolding opened
linked-opened F a cs l =
    linked-run F Side.left (outer F a) ((cell_spine, a, 0, 0) ∷ cs) (linked-over _ _ (cell_spine, a, 0, 0) cs (λ e. omega arith) l)

-- a row entered
pub linked-entered : {t s : List ℕ} (F : Facts) (d : Side) (n v : ℕ) (cs : Cells) → Linkable t s (length cs + 1) → Linked t s cs
    → Linked t (opens_row t (length cs + 1) s) (opened F (F.last d v) (run F d v ((cell_row, n, v, 0) ∷ cs))).1
linked-entered {t} {s} F d n v cs fits l =
    let up : suc (length cs) ≡ length cs + 1 = omega arith in
    let opens : Linked t (opens_row t (length cs + 1) s) ((cell_row, n, v, 0) ∷ cs) = rw up at (linked-row t s (cell_row, n, v, 0) cs (rw up fits) refl l) in
    linked-opened F (F.last d v) (run F d v ((cell_row, n, v, 0) ∷ cs)) (linked-run F d v ((cell_row, n, v, 0) ∷ cs) opens)

-- writes before the links, and the frame of an opening
pub links-stay : {t s s' : List ℕ} {a e : ℕ} (k : ℕ) → Within a e s s' → e ≤ link_at t k → (cs : Cells) → length cs ≤ k → Linked t s cs
    → Linked t s' cs
links-stay {t} k p h cs few l =
    linked-after t cs p (omega arith) l

pub opens-within : {t s : List ℕ} {k i : ℕ} → Linkable t s k → 0 < i → i ≤ k
    → Within (link_at t k) (length t + row_length) s (opens_row t i s)
unfolding opens_row
opens-within {t} {s} {k} {i} fits some below =
    let s' = put word_length s (link_at t i) (link t s 0) in
    within_both (within-number-put word_length s (link_at t i) (link t s 0) (link_at t k) (length t + row_length) (omega arith) (omega arith))
    (within-number-put word_length s' (link_at t 0) i (link_at t k) (length t + row_length) (omega arith) (omega arith))

-- the cells below a row are those before its opening
pub below-linked : (s : List ℕ) (k : ℕ) → cells_in s (row_on (cells_in s k) - 1) ≡ below_row (cells_in s k)
unfolding row_on below_row cells_in
below-linked s zero = refl
below-linked s (suc k) =
    let n : suc (length (cells_in s k)) - 1 ≡ k = omega (arith, length-cells s k) in
    by_bool (eqb (cell_at s (suc k)).0 cell_row)
    (λ u. rw u (ap (cells_in s) n))
    (λ u. rw u (below-linked s k))
