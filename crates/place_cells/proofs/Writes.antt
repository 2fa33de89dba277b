-- Cells in bytes: a cell that is written is read back, and the cells before it stay; so cells that are pushed one after the
-- other stand there all.
-- Assumes nothing.
use Prim.Native.Nat.{ℕ, zero, suc, ◌+◌, ◌-◌, ◌*◌, ◌^◌, ◌≤◌, ◌<◌}
use native.Mathlib.Omega.{arith}
use mathlib.Core.Path.{◌≡◌, refl, sym, ap, subst, ◌∙◌}
use mathlib.Core.List.{List, ◌∷◌}
use lib.ListN.{length}
use Rattle.words.specs.Number.{base, number}
use Rattle.words.specs.Put.{put}
use Rattle.words.proofs.Laws.{number-take, length-put, put_same, put_other, put-take, put-drop}
use Rattle.record.specs.Record.{word_length}
use Rattle.work_rows.specs.Rows.{Within}
use Rattle.work_rows.proofs.Rows.{within_none, within_both, within_wider}
use Rattle.std.specs.Prelude.{Option, Some, None}
use Rattle.forest.specs.Place.{Cells}
use Rattle.forest.specs.Walk.{cell_length, cell_at, cells_in}
use Rattle.place_cells.specs.declared.Cell.{Cell as Words}
use Rattle.place_cells.specs.Cells.{words, put_cell}
use Rattle.place_cells.specs.Changes.{add, Wrote, Put, high}
use Rattle.place_cells.proofs.Stack.{add-some}

-- a cell that lies before what has changed, and cells 1 to k
word-before : {a e : ℕ} {s t : List ℕ} → Within a e s t → (at : ℕ) → at + 2 ≤ a → number 2 t at ≡ number 2 s at
word-before {a} {e} {s} {t} p at fits =
    sym (number-take 2 a t at fits) ∙ ap (λ (l : List ℕ). number 2 l at) p.same_before ∙ number-take 2 a s at fits

cell-before : {a e : ℕ} {s t : List ℕ} → Within a e s t → (j : ℕ) → cell_length * (j + 1) ≤ a → cell_at t j ≡ cell_at s j
unfolding cell_at
cell-before p j fits =
    λ i. (
      word-before p (cell_length * j) (omega arith) i,
      word-before p (cell_length * j + word_length) (omega arith) i,
      word-before p (cell_length * j + 2 * word_length) (omega arith) i,
      word-before p (cell_length * j + 3 * word_length) (omega arith) i,
    )

pub cells-before : {a e : ℕ} {s t : List ℕ} → Within a e s t → (k : ℕ) → cell_length * (k + 1) ≤ a → cells_in t k ≡ cells_in s k
unfolding cells_in
cells-before p zero fits = refl
cells-before p (suc k) fits = λ i. cell-before p (suc k) (omega arith) i ∷ cells-before p k (omega arith) i

-- a cell's words fit their bytes
pub record Small (c : Words) : Type 0 where
  pub kind : c.kind < base ^ 2
  pub one : c.one < base ^ 2
  pub two : c.two < base ^ 2
  pub three : c.three < base ^ 2

-- a cell that is written: each word is written once, and lies apart from those written after it
module _ (s : List ℕ) (i : ℕ) (c : Words) where
  first : List ℕ
  first = put word_length s (cell_length * i) c.kind

  second : List ℕ
  second = put word_length first (cell_length * i + word_length) c.one

  third : List ℕ
  third = put word_length second (cell_length * i + 2 * word_length) c.two

  long-first : length first ≡ length s
  unfolding first
  long-first = length-put word_length s (cell_length * i) c.kind

  long-second : length second ≡ length s
  unfolding second
  long-second = length-put word_length first (cell_length * i + word_length) c.one ∙ long-first

  long-third : length third ≡ length s
  unfolding third
  long-third = length-put word_length second (cell_length * i + 2 * word_length) c.two ∙ long-second

  pub cell-within : Within (cell_length * i) (cell_length * (i + 1)) s (put_cell s i c)
  unfolding put_cell first second third
  cell-within =
      record {
        same_length = length-put word_length third (cell_length * i + 3 * word_length) c.three ∙ long-third;
        same_before =
            put-take word_length third (cell_length * i + 3 * word_length) c.three (cell_length * i) (omega arith)
            ∙ put-take word_length second (cell_length * i + 2 * word_length) c.two (cell_length * i) (omega arith)
            ∙ put-take word_length first (cell_length * i + word_length) c.one (cell_length * i) (omega arith)
            ∙ put-take word_length s (cell_length * i) c.kind (cell_length * i) (omega arith);
        same_after =
            put-drop word_length third (cell_length * i + 3 * word_length) c.three (cell_length * (i + 1)) (omega arith)
            ∙ put-drop word_length second (cell_length * i + 2 * word_length) c.two (cell_length * (i + 1)) (omega arith)
            ∙ put-drop word_length first (cell_length * i + word_length) c.one (cell_length * (i + 1)) (omega arith)
            ∙ put-drop word_length s (cell_length * i) c.kind (cell_length * (i + 1)) (omega arith);
      }

  module _ (fits : cell_length * (i + 1) ≤ length s) (small : Small c) where
    pub cell-put : cell_at (put_cell s i c) i ≡ words c
    unfolding cell_at put_cell first second third
    cell-put =
        let at = cell_length * i in
        λ j. (
          (put_other word_length word_length third (at + 3 * word_length) c.three at (λ v. omega arith)
              ∙ put_other word_length word_length second (at + 2 * word_length) c.two at (λ v. omega arith)
              ∙ put_other word_length word_length first (at + word_length) c.one at (λ v. omega arith)
              ∙ put_same word_length s at c.kind (omega arith) small.kind) j,
          (put_other word_length word_length third (at + 3 * word_length) c.three (at + word_length) (λ v. omega arith)
              ∙ put_other word_length word_length second (at + 2 * word_length) c.two (at + word_length) (λ v. omega arith)
              ∙ put_same word_length first (at + word_length) c.one (omega (arith, long-first)) small.one) j,
          (put_other word_length word_length third (at + 3 * word_length) c.three (at + 2 * word_length) (λ v. omega arith)
              ∙ put_same word_length second (at + 2 * word_length) c.two (omega (arith, long-second)) small.two) j,
          put_same word_length third (at + 3 * word_length) c.three (omega (arith, long-third)) small.three j,
        )

-- the number of cells
pub length-cells : (s : List ℕ) (k : ℕ) → length (cells_in s k) ≡ k
unfolding cells_in
length-cells s zero = refl
length-cells s (suc k) = ap suc (length-cells s k)

pub length-add : (c : Option Words) (cs : Cells) → length (add c cs) ≡ high c (length cs)
unfolding add high
length-add None cs = refl
length-add (Some c) cs = omega arith

pub high-grows : (c : Option Words) (k : ℕ) → k ≤ high c k
unfolding high
high-grows None k = omega arith
high-grows (Some c) k = omega arith

pub high-most : (c : Option Words) (k : ℕ) → high c k ≤ k + 1
unfolding high
high-most None k = omega arith
high-most (Some c) k = omega arith

-- cells that stand already, one cell more, and one cell more after others
pub wrote_none : (s : List ℕ) (k : ℕ) → Wrote (cells_in s k) s s
wrote_none s k = record { cells = ap (cells_in s) (length-cells s k); within = within_none cell_length (cell_length * (length (cells_in s k) + 1)) s }

pub wrote_one : (s : List ℕ) (k : ℕ) (c : Words) → cell_length * (k + 1 + 1) ≤ length s → Small c → Wrote (words c ∷ cells_in s k) s (put_cell s (k + 1) c)
unfolding cells_in
wrote_one s k c fits small =
    let n : length (cells_in s k) ≡ k = length-cells s k in
    let top : suc (length (cells_in s k)) ≡ k + 1 = omega arith in
    let t = put_cell s (k + 1) c in
    record {
      cells = λ j. (ap (cell_at t) top ∙ cell-put s (k + 1) c fits small) j ∷ (ap (cells_in t) n ∙ cells-before (cell-within s (k + 1) c) k (omega arith)) j;
      within = within_wider cell_length (cell_length * (suc (length (cells_in s k)) + 1)) (omega arith) (omega arith) (cell-within s (k + 1) c);
    }

pub wrote_then : (c : Option Words) {cs : Cells} {k : ℕ} {s t u : List ℕ} → Wrote cs s t → k ≡ length cs → Wrote (add c (cells_in t k)) t u → Wrote (add c cs) s u
wrote_then c {cs} {k} {s} {t} {u} p e q =
    let facts_in : cells_in t k ≡ cs = ap (cells_in t) e ∙ p.cells in
    let r : Wrote (add c cs) t u = rw facts_in at q in
    let longer : length cs ≤ length (add c cs) = omega (arith, length-add c cs, high-grows c (length cs)) in
    record {
      cells = r.cells;
      within = within_both (within_wider cell_length (cell_length * (length (add c cs) + 1)) (omega arith) (omega arith) p.within) r.within;
    }

-- the cell on top written over
pub put-top : (s : List ℕ) (k : ℕ) (c : Words) → 0 < k → cell_length * (k + 1) ≤ length s → Small c
    → Put (add (Some c) (cells_in s (k - 1))) s (put_cell s k c) k
put-top s k c some fits small =
    let e : k - 1 + 1 ≡ k = omega arith in
    let w : Wrote (words c ∷ cells_in s (k - 1)) s (put_cell s k c) = rw e at (wrote_one s (k - 1) c (omega arith) small) in
    let n : length (cells_in s (k - 1)) ≡ k - 1 = length-cells s (k - 1) in
    rw (add-some c (cells_in s (k - 1))) (omega arith, w)

pub put-none : (s : List ℕ) (k : ℕ) → Put (cells_in s k) s s k
put-none s k = (sym (length-cells s k), wrote_none s k)

pub put-more : (c : Option Words) {cs : Cells} {k r : ℕ} {s t u : List ℕ} → Put cs s t k → (r ≡ high c k) × Wrote (add c (cells_in t k)) t u → Put (add c cs) s u r
put-more c {cs} p q = (q.0 ∙ ap (high c) p.0 ∙ sym (length-add c cs), wrote_then c p.1 p.0 q.1)

pub put_as : {cs cs' : Cells} {s t : List ℕ} {k : ℕ} → cs ≡ cs' → Put cs s t k → Put cs' s t k
put_as {s = s} {t = t} {k = k} e p = subst (λ (l : Cells). Put l s t k) e p
