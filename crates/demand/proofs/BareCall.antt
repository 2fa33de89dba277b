-- "No letters: only that clearing is done." An accepted walk of no letters stores the place where it began, whose cells are the used cells
-- of the cursor that it was lent; cells that were read have the bytes that they were read from. So k, word 1 and the used cells stay as they are,
-- zeros follow up to 16 × (n + 1) words, and neither what lies behind nor an answer changes. Assumes nothing.
use Prim.Native.Nat.{ℕ, ◌+◌, ◌-◌, ◌*◌, ◌≤◌}
use native.Mathlib.Omega.{arith}
use mathlib.Core.Path.{◌≡◌, refl, sym, ap, ◌∙◌}
use mathlib.Core.Bool.{Bool, true, false, cond, ◌&&◌, and-eq-true_iff}
use mathlib.Core.List.{List, [], ◌++◌, append_assoc}
use Rattle.std.specs.Prelude.{Option, None, Some, Ok}
use lib.ListN.{length, take, drop, replicate}
use lib.Seq.{take-add}
use Rattle.words.specs.Front.{in_front}
use Rattle.refusal.specs.declared.Refusal.{Refusal}
use Rattle.record.specs.Record.{word_length}
use Rattle.record.proofs.RecordBytes.{Bytes, four_bytes}
use Rattle.plan.specs.Check.{checked, rules_of}
use Rattle.forest.specs.Forest.{Forest}
use Rattle.forest.specs.Place.{Cell, Cells, Placed, placed_forest}
use Rattle.forest.specs.Reference.{Path, answers, path_after}
use Rattle.forest.specs.Outcome.{work_words, cleared, work_after}
use Rattle.forest.specs.Walk.{cell_length, cursor_words, enough_lent, letters_of, first_other, cell_at, cells_in, used_cells, rule_word, walked_rule, is_closed, headed, path_of, Begun, stored, place_in, place_judged, letters_judged, begun_from, begun, walked, place_at, cell_bytes, cells_bytes, stored_cursor, cursor_after, answers_bytes, answers_after, walked_work}
use Rattle.forest.proofs.Search.{path-cells}
use Rattle.forest.proofs.Stored.{gap, cells-bytes, stored-parts}
use Rattle.demand.specs.Calls.{walk_of, lends, leaves}
use Rattle.demand.proofs.Passed.{lent-enough, headed-zeros, length-cells_in}

-- the used cells as they are, zeros up to 16 × (n + 1) words, and the rest as it was
abbrev pub only_cleared : ℕ → ℕ → List ℕ → List ℕ
only_cleared n k cursor =
    take (cell_length * (k + 1)) cursor
    ++ (replicate (word_length * cursor_words n - cell_length * (k + 1)) 0 ++ drop (word_length * cursor_words n) cursor)

-- cell 0 has the bytes that it was read from
head_bytes : (s : List ℕ) → Bytes s → cell_length ≤ length s → cell_bytes (cell_at s 0) ≡ take cell_length s
unfolding cell_bytes cell_at
head_bytes s b fits = four_bytes s 0 b fits

-- a place stored again where it was read
stored-again : (n k w : ℕ) (s : List ℕ) → Bytes s → cell_at s 0 ≡ (k, w, 0, 0)
    → cell_length * (k + 1) ≤ word_length * cursor_words n → word_length * cursor_words n ≤ length s
    → stored_cursor n w (cells_in s k) s ≡ only_cleared n k s
stored-again n k w s b head fits room =
    let long = length-cells_in s k in
    let end : List ℕ = drop (word_length * cursor_words n) s in
    let rest : List ℕ = replicate (gap n k) 0 ++ end in
    let all : cell_length + cell_length * k ≡ cell_length * (k + 1) = omega arith in
    stored-parts n w (cells_in s k) s (rw long fits)
    ∙ ap (λ (m : ℕ). cell_bytes (m, w, 0, 0) ++ (cells_bytes (cells_in s k) ++ (replicate (gap n m) 0 ++ end))) long
    ∙ ap (λ (c : Cell). cell_bytes c ++ (cells_bytes (cells_in s k) ++ rest)) (sym head)
    ∙ rw (head_bytes s b (omega arith), cells-bytes s k b (omega arith))
    (sym (append_assoc (take cell_length s) (take (cell_length * k) (drop cell_length s)) rest)
    ∙ ap (λ (l : List ℕ). l ++ rest) (sym (take-add cell_length (cell_length * k) s) ∙ ap (λ (m : ℕ). take m s) all))

-- what an accepted call has passed: t is 8, h the tests of cell 0, x what the search for its cells found
record Passes (t h : Bool) (x : Option Path) : Type 0 where
  path : Path
  lent : t ≡ true
  head : h ≡ true
  found : x ≡ Some path

passes : (t h : Bool) (x : Option Path) (n r : ℕ)
    → walked (cond t (cond h (stored n r x) (Begun.refused Refusal.Place)) (Begun.refused Refusal.Lent)) ≡ Ok tt
    → Passes t h x
unfolding walked stored
passes true true (Some p) n r e = record { path = p; lent = refl; head = refl; found = refl }
passes true true None n r e = absurd (let z : ◌≡◌ {A = ℕ} 0 1 = cc in omega arith)
passes true false x n r e = absurd (let z : ◌≡◌ {A = ℕ} 0 1 = cc in omega arith)
passes false h x n r e = absurd (let z : ◌≡◌ {A = ℕ} 0 1 = cc in omega arith)

module _ (s work cursor given : List ℕ) (n start : ℕ) (accepted : checked s ≡ Ok (record { n = n; start = start })) (b : Bytes cursor) where
  begins : begun s work cursor [] given
      ≡ cond (enough_lent work cursor [] given n) (place_judged (rules_of s) n start cursor) (Begun.refused Refusal.Lent)
  unfolding begun begun_from letters_judged first_other
  begins = rw accepted

  -- k is that of the cursor as lent; the walked rule, and its forest with places
  abbrev k : ℕ
  k = used_cells cursor

  abbrev r : ℕ
  r = walked_rule start cursor

  abbrev G : Forest Placed
  G = placed_forest (rules_of s) r

  abbrev Begins : Type 0
  Begins = Passes (enough_lent work cursor [] given n) (is_closed (rules_of s) r && headed n cursor) (path_of G (cells_in cursor k))

  place_kept : (q : Begins) → stored_cursor n (rule_word cursor) (place_at G q.path) cursor ≡ only_cleared n k cursor
  place_kept q =
      let head = headed-zeros n cursor ((and-eq-true_iff (is_closed (rules_of s) r) (headed n cursor)).0 q.head).1 in
      ap (λ (cs : Cells). stored_cursor n (rule_word cursor) cs cursor) (path-cells G (cells_in cursor k) q.path q.found)
      ∙ stored-again n k (rule_word cursor) cursor b head.0 (omega arith) (lent-enough n work cursor [] given q.lent)

  all_left : Begins
      → walk_of (lends s work cursor [] given)
      ≡ leaves (Ok tt) (cleared (word_length * work_words n) work) (only_cleared n k cursor) given
  unfolding walk_of walked walked_work work_after cursor_after answers_after answers_bytes in_front answers path_after letters_of place_judged place_in stored
  all_left q =
      let at : begun s work cursor [] given ≡ Begun.at n r q.path = begins ∙ rw (q.lent, q.head, q.found) in
      rw (at, accepted, q.lent, place_kept q)

  -- and work is cleared, as by every call that 8 lets pass
  pub no-letters : (walk_of (lends s work cursor [] given)).answer ≡ Ok tt
      → walk_of (lends s work cursor [] given)
      ≡ leaves (Ok tt) (cleared (word_length * work_words n) work) (only_cleared n k cursor) given
  unfolding walk_of place_judged place_in
  no-letters e =
      let e' = sym (ap walked begins) ∙ e in
      all_left (passes (enough_lent work cursor [] given n) (is_closed (rules_of s) r && headed n cursor) (path_of G (cells_in cursor k)) n r e')
