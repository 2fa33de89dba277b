-- The log cut into chunks: what is left of it before a chunk is the chunk and what is left after it, so the chunk is the page that begins where
-- the letters before it end. Assumes nothing.
use Prim.Native.Nat.{ℕ, ◌+◌, ◌-◌, ◌≤◌, ◌<◌}
use native.Mathlib.Omega.{arith}
use mathlib.Core.Path.{◌≡◌, sym, ap, ◌∙◌}
use mathlib.Core.List.{List, ◌++◌}
use lib.ListN.{length, take, drop, length-append}
use lib.Seq.{drop-drop, drop-append_seam, take_at}
use Rattle.std.specs.Prelude.{min}
use Rattle.decimal.specs.Put.{Put}
use Rattle.forest.specs.Forest.{Forest}
use Rattle.forest.specs.Reference.{Path, answers, path_after}
use Rattle.forest.specs.Walk.{letters_of}
use Rattle.page_line.specs.Page.{page_text}
use Rattle.page_output.specs.Walking.{Ends, Walking}

module _ (log letters later : List ℕ) {rest : List ℕ} (within : length rest ≤ length log) (left : rest ≡ drop (length log - length rest) log)
    (cut : rest ≡ letters ++ later) where
  pub lengths : length rest ≡ length letters + length later
  lengths = ap length cut ∙ length-append letters later

  pub chunk-ends : length letters ≡ min 50 (length rest) → 0 < length rest → Ends (length log) (length log - length rest) (length log - length later)
  chunk-ends e h =
      let l = lengths in
      record { more = omega arith; within = omega arith; few = omega arith; last = λ h. omega arith }

  pub chunk-part : letters ≡ take (length log - length later - (length log - length rest)) (drop (length log - length rest) log)
  chunk-part =
      let l = lengths in
      let k : length letters ≡ length log - length later - (length log - length rest) = omega arith in
      sym (take_at letters later _ k) ∙ ap (take (length log - length later - (length log - length rest))) (sym cut ∙ left)

  pub chunk-later : later ≡ drop (length log - length later) log
  chunk-later =
      let l = lengths in
      let k : length log - length rest + length letters ≡ length log - length later = omega arith in
      sym (drop-append_seam letters later)
      ∙ ap (drop (length letters)) (sym cut ∙ left)
      ∙ drop-drop (length letters) (length log - length rest) log
      ∙ ap (λ (k : ℕ). drop k log) k

-- the page of the same letters with the same numbers
pub walked-as : (number : ℕ) (g : Forest ℕ) (path : Path) {plan : List ℕ} {n start : ℕ} {cursor out out' : List ℕ} {r first : ℕ} {letters part : List ℕ}
    → Put (page_text first letters (answers g (letters_of letters) path)) 0 out out' r × Walking plan n start cursor (path_after g (letters_of letters) path)
    → first ≡ number → letters ≡ part
    → Put (page_text number part (answers g (letters_of part) path)) 0 out out' r × Walking plan n start cursor (path_after g (letters_of part) path)
walked-as number g path W e f = rw (← e, ← f) W
