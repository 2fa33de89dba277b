-- What a call has passed that 8 doesn't turn down, and whose cell 0 is in order: the words that n rules need are there, words 2 and 3 of
-- cell 0 are zeros, and cells 1 to k lie in those words. Each test is the conjunction of such facts. Assumes nothing.
use Prim.Native.Nat.{ℕ, zero, suc, ◌+◌, ◌*◌, ◌≤◌}
use native.Mathlib.Omega.{arith}
use mathlib.Core.Path.{◌≡◌, refl, ap, ◌∙◌}
use mathlib.Core.Bool.{true, ◌&&◌, and-eq-true_iff}
use mathlib.Core.List.{List}
use lib.ListN.{length}
use lib.Dec.{leb, eqb}
use borrow.Author.Tests.{le-leb, leb-true, eqb-true}
use Rattle.words.specs.Number.{word_count}
use Rattle.record.specs.Record.{word_length}
use Rattle.forest.specs.Place.{Cell}
use Rattle.forest.specs.Outcome.{enough_work}
use Rattle.forest.specs.Walk.{cell_words, cursor_words, enough_cursor, enough_lent, cell_at, cells_in, used_cells, rule_word, headed}

-- what 8 lets pass is long enough
pub lent-enough : (n : ℕ) (work cursor letters given : List ℕ) → enough_lent work cursor letters given n ≡ true
    → word_length * cursor_words n ≤ length cursor
unfolding enough_lent
lent-enough n work cursor letters given e =
    let past_work = ((and-eq-true_iff (enough_work n work) _).0 e).1 in
    let h = leb-true (cursor_words n) (word_count cursor) ((and-eq-true_iff (enough_cursor n cursor) _).0 past_work).0 in
    omega arith

-- the words past k are zeros but for word 1
abbrev pub Zeros : List ℕ → Type 0
Zeros cursor = cell_at cursor 0 ≡ (used_cells cursor, rule_word cursor, 0, 0)

-- cell 0 passes its test exactly if they are and cells 1 to k lie in the words that n rules need
pub zeros-headed : (n : ℕ) (cursor : List ℕ) → Zeros cursor → cell_words * (used_cells cursor + 1) ≤ cursor_words n → headed n cursor ≡ true
unfolding headed used_cells
zeros-headed n cursor z fits =
    ap (λ (c : Cell). eqb c.2 0 && (eqb c.3 0 && leb (cell_words * (c.0 + 1)) (cursor_words n))) z
    ∙ le-leb (cell_words * (used_cells cursor + 1)) (cursor_words n) fits

in_order : (c : Cell) (n : ℕ) → (eqb c.2 0 && (eqb c.3 0 && leb (cell_words * (c.0 + 1)) (cursor_words n))) ≡ true
    → (c ≡ (c.0, c.1, 0, 0)) × (cell_words * (c.0 + 1) ≤ cursor_words n)
in_order c n h =
    let p = (and-eq-true_iff (eqb c.2 0) _).0 h in
    let q = (and-eq-true_iff (eqb c.3 0) _).0 p.1 in
    (λ i. (c.0, c.1, eqb-true c.2 0 p.0 i, eqb-true c.3 0 q.0 i), leb-true _ _ q.1)

pub headed-zeros : (n : ℕ) (cursor : List ℕ) → headed n cursor ≡ true → Zeros cursor × (cell_words * (used_cells cursor + 1) ≤ cursor_words n)
unfolding headed used_cells rule_word
headed-zeros n cursor h = in_order (cell_at cursor 0) n h

-- k cells are read
pub length-cells_in : (s : List ℕ) (k : ℕ) → length (cells_in s k) ≡ k
unfolding cells_in
length-cells_in s zero = refl
length-cells_in s (suc k) = ap suc (length-cells_in s k)
