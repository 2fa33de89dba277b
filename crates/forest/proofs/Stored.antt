-- A stored cursor reads back: its cell 0 holds the number of cells and word 1, cells 1 to k are those stored, the rest of the required
-- words are zeros, and what lies behind them is as it was. A cell's bytes stand where cell_at reads them, one cell after the other; and
-- cells that are read have the bytes that they were read from, as a plan's records have.
-- Assumes nothing.
use Prim.Native.Nat.{ℕ, zero, suc, ◌+◌, ◌-◌, ◌*◌, ◌≤◌, ◌<◌}
use native.Mathlib.Omega.{arith}
use mathlib.Core.Path.{◌≡◌, refl, sym, ap, ap₂, ◌∙◌}
use mathlib.Core.List.{List, [], ◌∷◌, ◌++◌, append_assoc}
use lib.ListN.{length, take, drop, replicate, length-append, length-drop, length-replicate}
use lib.Seq.{take_at, drop_at, take-add, drop-drop}
use Rattle.words.specs.Number.{number, bytes}
use Rattle.words.proofs.Laws.{number-bytes, length-bytes}
use Rattle.record.specs.Record.{word_length}
use Rattle.words.specs.Front.{in_front}
use Rattle.record.proofs.RecordBytes.{Bytes, four_bytes}
use Rattle.forest.specs.Place.{Cell, Cells}
use Rattle.forest.specs.Walk.{cell_length, cursor_words, cell_at, cells_in, cell_bytes, cells_bytes, padded, stored_cursor}

-- every word of a cell, and of every cell, fits its two bytes
pub record Fitting (c : Cell) : Type 0 where
  pub kind : c.0 < 65536
  pub one : c.1 < 65536
  pub two : c.2 < 65536
  pub three : c.3 < 65536

abbrev pub AllFitting : Cells → Type 0
AllFitting [] = Unit {0}
AllFitting (c ∷ cs) = Fitting c × AllFitting cs

pub length-cell : (c : Cell) → length (cell_bytes c) ≡ cell_length
unfolding cell_bytes
length-cell c = simp (length-append, length-bytes)

pub length-cells : (cs : Cells) → length (cells_bytes cs) ≡ cell_length * length cs
unfolding cells_bytes
length-cells [] = refl
length-cells (c ∷ cs) = length-append (cells_bytes cs) (cell_bytes c) ∙ omega (arith, length-cells cs, length-cell c)

-- a word whose bytes stand behind p and pre
word_back : (v : ℕ) (p pre suf q : List ℕ) (at : ℕ) → length p + length pre ≡ at → v < 65536 → number 2 (p ++ ((pre ++ (bytes 2 v ++ suf)) ++ q)) at ≡ v
word_back v p pre suf q at e small =
    ap (λ (l : List ℕ). number 2 l at) regrouped ∙ number-bytes 2 v (p ++ pre) (suf ++ q) at (length-append p pre ∙ e) small
  where
    regrouped : p ++ ((pre ++ (bytes 2 v ++ suf)) ++ q) ≡ (p ++ pre) ++ (bytes 2 v ++ (suf ++ q))
    regrouped = simp append_assoc

-- the cell whose bytes stand behind p
pub cell-back : (c : Cell) (p q : List ℕ) (i : ℕ) → length p ≡ cell_length * i → Fitting c → cell_at (p ++ (cell_bytes c ++ q)) i ≡ c
unfolding cell_at cell_bytes bytes
cell-back c p q i e f =
    λ j. (
      word_back c.0 p [] (bytes 2 c.1 ++ (bytes 2 c.2 ++ bytes 2 c.3)) q (cell_length * i) (omega arith) f.kind j,
      word_back c.1 p (bytes 2 c.0) (bytes 2 c.2 ++ bytes 2 c.3) q (cell_length * i + 2) (omega arith) f.one j,
      word_back c.2 p (bytes 2 c.0 ++ bytes 2 c.1) (bytes 2 c.3) q (cell_length * i + 2 * 2) (omega arith) f.two j,
      word_back c.3 p (bytes 2 c.0 ++ (bytes 2 c.1 ++ bytes 2 c.2)) [] q (cell_length * i + 3 * 2) (omega arith) f.three j,
    )

-- cells stored behind one cell's bytes
pub cells-back : (cs : Cells) (p q : List ℕ) → length p ≡ cell_length → AllFitting cs → cells_in (p ++ (cells_bytes cs ++ q)) (length cs) ≡ cs
unfolding cells_in cells_bytes
cells-back [] p q e f = refl
cells-back (c ∷ cs) p q e f =
    ap₂ (λ (x : Cell) (xs : Cells). x ∷ xs) head (ap (λ (l : List ℕ). cells_in l (length cs)) regrouped ∙ cells-back cs p (cell_bytes c ++ q) e f.1)
  where
    regrouped : p ++ ((cells_bytes cs ++ cell_bytes c) ++ q) ≡ p ++ (cells_bytes cs ++ (cell_bytes c ++ q))
    regrouped = simp append_assoc

    behind : p ++ ((cells_bytes cs ++ cell_bytes c) ++ q) ≡ (p ++ cells_bytes cs) ++ (cell_bytes c ++ q)
    behind = simp append_assoc

    head : cell_at (p ++ ((cells_bytes cs ++ cell_bytes c) ++ q)) (suc (length cs)) ≡ c
    head =
        ap (λ (l : List ℕ). cell_at l (suc (length cs))) behind
        ∙ cell-back c (p ++ cells_bytes cs) q (suc (length cs)) (length-append p (cells_bytes cs) ∙ omega (arith, length-cells cs)) f.0

-- a cell's bytes, and those of cells 1 to k, are the ones that it was read from
cell-bytes : (s : List ℕ) (i : ℕ) → Bytes s → cell_length * (i + 1) ≤ length s → cell_bytes (cell_at s i) ≡ take cell_length (drop (cell_length * i) s)
unfolding cell_bytes cell_at
cell-bytes s i b fits = four_bytes s (cell_length * i) b (omega arith)

pub cells-bytes : (s : List ℕ) (k : ℕ) → Bytes s → cell_length * (k + 1) ≤ length s → cells_bytes (cells_in s k) ≡ take (cell_length * k) (drop cell_length s)
unfolding cells_bytes cells_in
cells-bytes s zero b fits = refl
cells-bytes s (suc k) b fits =
    let more : cell_length * suc k ≡ cell_length * k + cell_length = omega arith in
    let from : cell_length * suc k ≡ cell_length + cell_length * k = omega arith in
    ap₂ (λ (x y : List ℕ). x ++ y) (cells-bytes s k b (omega arith)) (cell-bytes s (suc k) b (omega arith) ∙ ap (λ (m : ℕ). take cell_length (drop m s)) from)
    ∙ (rw (more, take-add (cell_length * k) cell_length (drop cell_length s), drop-drop (cell_length * k) cell_length s))

-- ---- the stored cursor, with w in word 1 of cell 0

-- how many zeros follow k cells
abbrev pub gap : ℕ → ℕ → ℕ
gap n k = word_length * cursor_words n - cell_length * (k + 1)

module _ (n w : ℕ) (cs : Cells) (cursor : List ℕ) (room : cell_length * (length cs + 1) ≤ word_length * cursor_words n) where
  length_front : length (cell_bytes (length cs, w, 0, 0) ++ cells_bytes cs) ≡ cell_length * (length cs + 1)
  length_front = length-append (cell_bytes (length cs, w, 0, 0)) (cells_bytes cs) ∙ omega (arith, length-cell (length cs, w, 0, 0), length-cells cs)

  length-padded : length (padded (word_length * cursor_words n) (cell_bytes (length cs, w, 0, 0) ++ cells_bytes cs)) ≡ word_length * cursor_words n
  unfolding padded
  length-padded = length-append (cell_bytes (length cs, w, 0, 0) ++ cells_bytes cs) _ ∙ (rw (length_front, length-replicate {A = ℕ} (gap n (length cs)) 0) (omega arith))

  padded-parts : (rest : List ℕ) → padded (word_length * cursor_words n) (cell_bytes (length cs, w, 0, 0) ++ cells_bytes cs) ++ rest ≡ cell_bytes (length cs, w, 0, 0) ++ (cells_bytes cs ++ (replicate (gap n (length cs)) 0 ++ rest))
  unfolding padded
  padded-parts rest = rw length_front (simp append_assoc)

  -- cell 0 and the cells, the zeros, and what lies behind
  pub stored-parts : stored_cursor n w cs cursor ≡ cell_bytes (length cs, w, 0, 0) ++ (cells_bytes cs ++ (replicate (gap n (length cs)) 0 ++ drop (word_length * cursor_words n) cursor))
  unfolding stored_cursor in_front
  stored-parts =
      ap (λ (m : ℕ). padded (word_length * cursor_words n) (cell_bytes (length cs, w, 0, 0) ++ cells_bytes cs) ++ drop m cursor) length-padded
      ∙ padded-parts (drop (word_length * cursor_words n) cursor)

  pub stored-length : word_length * cursor_words n ≤ length cursor → length (stored_cursor n w cs cursor) ≡ length cursor
  stored-length enough =
      ap length stored-parts
      ∙ simp (length-append, length-replicate, length-drop, length-cell, length-cells) (omega arith)

  pub stored-head : length cs < 65536 → w < 65536 → cell_at (stored_cursor n w cs cursor) 0 ≡ (length cs, w, 0, 0)
  stored-head small word =
      ap (λ (l : List ℕ). cell_at l 0) stored-parts
      ∙ cell-back (length cs, w, 0, 0) [] (cells_bytes cs ++ (replicate (gap n (length cs)) 0 ++ drop (word_length * cursor_words n) cursor)) 0 refl (record { kind = small; one = word; two = omega arith; three = omega arith })

  pub stored-cells : AllFitting cs → cells_in (stored_cursor n w cs cursor) (length cs) ≡ cs
  stored-cells f =
      ap (λ (l : List ℕ). cells_in l (length cs)) stored-parts
      ∙ cells-back cs (cell_bytes (length cs, w, 0, 0)) (replicate (gap n (length cs)) 0 ++ drop (word_length * cursor_words n) cursor) (length-cell (length cs, w, 0, 0)) f

  pub stored-clear : take (gap n (length cs)) (drop (cell_length * (length cs + 1)) (stored_cursor n w cs cursor)) ≡ replicate (gap n (length cs)) 0
  stored-clear =
      ap (λ (l : List ℕ). take (gap n (length cs)) (drop (cell_length * (length cs + 1)) l)) (stored-parts ∙ sym (append_assoc (cell_bytes (length cs, w, 0, 0)) (cells_bytes cs) _))
      ∙ ap (take (gap n (length cs))) (drop_at (cell_bytes (length cs, w, 0, 0) ++ cells_bytes cs) _ (cell_length * (length cs + 1)) length_front)
      ∙ take_at (replicate (gap n (length cs)) 0) (drop (word_length * cursor_words n) cursor) (gap n (length cs)) (length-replicate (gap n (length cs)) 0)
