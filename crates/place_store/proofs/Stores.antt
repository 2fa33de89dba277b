-- The stored place as one list: zeros past the used cells, and cell 0 with their number before the bytes that they stand in.
-- Assumes nothing.
use Prim.Native.Nat.{ℕ, ◌+◌, ◌-◌, ◌*◌, ◌/◌, ◌%◌, ◌≤◌, ◌<◌}
use native.Mathlib.Omega.{arith}
use mathlib.Core.Path.{◌≡◌, sym, ap, ap₂, ◌∙◌}
use mathlib.Core.List.{List, [], ◌++◌, append-nil, append_assoc}
use lib.ListN.{length, take, drop, replicate, length-drop}
use lib.Seq.{take_all, drop-length, drop-drop, take-append-add, drop-append-add}
use Rattle.words.specs.Number.{bytes}
use Rattle.words.proofs.Laws.{four-put}
use Rattle.record.proofs.RecordBytes.{Bytes}
use Rattle.forest.specs.Outcome.{cleared}
use Rattle.forest.specs.Place.{Cells}
use Rattle.forest.specs.Walk.{cell_length, cells_in, cell_bytes, cells_bytes, stored_cursor}
use Rattle.forest.proofs.Stored.{gap, length-cell, cells-bytes, stored-parts}
use Rattle.place_cells.specs.declared.Cell.{Cell as Words}
use Rattle.place_cells.specs.Cells.{words, cell, put_cell, cursor_length}
use Rattle.place_store.specs.Past.{cleared_past}
use Rattle.place_cells.proofs.Writes.{length-cells}

-- the bytes from a to e cleared in the part from a on
pub clear-part : (s : List ℕ) (a e : ℕ) → a ≤ e → e ≤ length s
    → take a s ++ (cleared (e - a) (take (length s - a) (drop a s)) ++ drop (length s - a) (drop a s)) ≡ take a s ++ (replicate (e - a) 0 ++ drop e s)
unfolding cleared
clear-part s a e low high =
    let n : length (drop a s) ≡ length s - a = length-drop a s in
    let whole : take (length s - a) (drop a s) ≡ drop a s = take_all (length s - a) (drop a s) (omega arith) in
    let rest : drop (length s - a) (drop a s) ≡ [] = ap (λ (k : ℕ). drop k (drop a s)) (sym n) ∙ drop-length (drop a s) in
    let past : a + (e - a) ≡ e = omega arith in
    rw (whole, rest, append-nil, drop-drop (e - a) a s, past)

-- the first cell written: its bytes, and the others
put_first : (s : List ℕ) (c : Words) → cell_length ≤ length s → put_cell s 0 c ≡ cell_bytes (words c) ++ drop cell_length s
unfolding put_cell cell_bytes
put_first s c fits = four-put s 0 c.kind c.one c.two c.three fits

-- a word has the low bytes of a number only
low_digit : (m q : ℕ) → m < 256 → (256 * q + m) % 256 ≡ m % 256
low_digit m q small = omega arith

low-bytes : (k : ℕ) → bytes 2 (k % 65536) ≡ bytes 2 k
unfolding bytes
low-bytes k =
    let first : k % 65536 % 256 ≡ k % 256 = omega arith in
    let halves : k / 256 ≡ 256 * (k / 65536) + k % 65536 / 256 = omega arith in
    let second : k % 65536 / 256 % 256 ≡ k / 256 % 256 =
    sym (ap (λ (x : ℕ). x % 256) halves ∙ low_digit (k % 65536 / 256) (k / 65536) (omega arith)) in
    rw (first, second)

-- past bytes that stand in the place of others
drop_past : (p s : List ℕ) (a m : ℕ) → length p ≡ a → a ≤ m → drop m (p ++ drop a s) ≡ drop m s
drop_past p s a m long past =
    let e : m ≡ length p + (m - a) = omega arith in
    let f : a + (m - a) ≡ m = omega arith in
    ap (λ (j : ℕ). drop j (p ++ drop a s)) e ∙ drop-append-add p (drop a s) (m - a) ∙ drop-drop (m - a) a s ∙ ap (λ (j : ℕ). drop j s) f

-- the number of cells in cell 0 with word 1, and zeros past them
module _ (s : List ℕ) (k n w : ℕ) (b : Bytes s) (fits : cell_length * (k + 1) ≤ cursor_length n) (room : cursor_length n ≤ length s) where
  head : List ℕ
  head = cell_bytes (k, w, 0, 0)

  head-length : length head ≡ cell_length
  unfolding head
  head-length = length-cell (k, w, 0, 0)

  with-head : put_cell s 0 (cell (k % 65536, w, 0, 0)) ≡ head ++ drop cell_length s
  unfolding head cell_bytes
  with-head = put_first s (cell (k % 65536, w, 0, 0)) (omega arith) ∙ rw (low-bytes k)

  head-take : take (cell_length * (k + 1)) (head ++ drop cell_length s) ≡ head ++ cells_bytes (cells_in s k)
  head-take =
      let e : cell_length * (k + 1) ≡ length head + cell_length * k = omega (arith, head-length) in
      ap (λ (j : ℕ). take j (head ++ drop cell_length s)) e
      ∙ take-append-add head (drop cell_length s) (cell_length * k)
      ∙ ap (λ (l : List ℕ). head ++ l) (sym (cells-bytes s k b (omega arith)))

  stored_here : stored_cursor n w (cells_in s k) s ≡ head ++ (cells_bytes (cells_in s k) ++ (replicate (gap n k) 0 ++ drop (cursor_length n) s))
  unfolding head
  stored_here =
      let long : length (cells_in s k) ≡ k = length-cells s k in
      stored-parts n w (cells_in s k) s (omega arith)
      ∙ ap (λ (m : ℕ). cell_bytes (m, w, 0, 0) ++ (cells_bytes (cells_in s k) ++ (replicate (gap n m) 0 ++ drop (cursor_length n) s))) long

  pub stored-whole : cleared_past k n (put_cell s 0 (cell (k % 65536, w, 0, 0))) ≡ stored_cursor n w (cells_in s k) s
  unfolding cleared_past
  stored-whole =
      ap (cleared_past k n) with-head
      ∙ ap₂ (λ (x y : List ℕ). x ++ (replicate (gap n k) 0 ++ y)) head-take (drop_past head s cell_length (cursor_length n) head-length (omega arith))
      ∙ append_assoc head (cells_bytes (cells_in s k)) (replicate (gap n k) 0 ++ drop (cursor_length n) s)
      ∙ sym stored_here

-- what lies past the words that n rules need is all that a stored cursor keeps
pub stored_same : (n w : ℕ) (cs : Cells) (s s' : List ℕ) → cell_length * (length cs + 1) ≤ cursor_length n → drop (cursor_length n) s' ≡ drop (cursor_length n) s
    → stored_cursor n w cs s' ≡ stored_cursor n w cs s
stored_same n w cs s s' room e = stored-parts n w cs s' room ∙ rw e (sym (stored-parts n w cs s room))
