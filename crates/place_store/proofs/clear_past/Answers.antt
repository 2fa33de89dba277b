-- The zeros are those of `clear` on the cursor past cell k. Assumes nothing.
use Prim.Native.Nat.{ℕ, ◌+◌, ◌-◌, ◌*◌}
use mathlib.Core.Path.{◌≡◌, ap, ◌∙◌}
use native.Mathlib.Omega.{arith}
use mathlib.Core.List.{List, ◌++◌}
use lib.ListN.{length, take, drop, replicate, length-take, length-drop}
use Rattle.forest.specs.Walk.{cursor_words}
use Rattle.place_cells.specs.Cells.{cursor_length}
use Rattle.place_store.specs.Past.{cleared_past}
use Rattle.place_store.proofs.Stores.{clear-part}
use Rattle.place_store.proofs.clear_past.Goals as goal

pub overflow_sub-to : goal.overflow_sub-to
unfolding cursor_words
overflow_sub-to c = omega arith

pub clear-requires : goal.clear-requires
unfolding cursor_words
clear-requires c = simp (length-take, length-drop) (omega arith)

pub returns : goal.returns
unfolding cleared_past cursor_words
returns c = let a = c.args in let s = a.cursor.now in let at = 8 * (a.k + 1) in let e = 32 * (a.n + 1) in
    let same : e ≡ cursor_length a.n = omega arith in
    ap (λ (l : List ℕ). take at s ++ (l ++ drop (length s - at) (drop at s))) c.clear.ensures
    ∙ clear-part s at e (omega arith) (omega arith)
    ∙ ap (λ (m : ℕ). take at s ++ (replicate (m - at) 0 ++ drop m s)) same
