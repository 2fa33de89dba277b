-- Document 02, Note 14, "One entry, one place": what calls leave in the required words is cell 0, the cells of the node at the finger's path
-- and zeros, as soon as one of them is accepted; such words read back, so equal ones have equal cells; and each node has cells of its own.
-- Assumes nothing.
use Prim.Native.Nat.{ℕ, ◌+◌, ◌*◌, ◌≤◌, ◌<◌}
use native.Mathlib.Omega.{arith}
use mathlib.Core.Path.{◌≡◌, refl, sym, ap, ap₂, ◌∙◌}
use mathlib.Core.Logic.{◌↔◌}
use mathlib.Core.Bool.{Bool, true, false, ◌||◌, false≢true}
use mathlib.Core.List.{List, [], ◌∷◌, ◌++◌, append_assoc}
use Rattle.std.specs.Prelude.{Some, Ok}
use lib.ListN.{length, take, drop, replicate, length-append, length-replicate}
use lib.Seq.{take_at}
use Rattle.rule.specs.Sound.{Closed}
use Rattle.record.specs.Record.{word_length}
use Rattle.plan.specs.Check.{checked, rules_of}
use Rattle.forest.specs.Forest.{Forest, forest}
use Rattle.forest.specs.Place.{Cell, Cells, Placed, placed_forest}
use Rattle.forest.specs.Position.{Named}
use Rattle.forest.specs.Reference.{Path, path_after}
use Rattle.forest.specs.Walk.{cell_length, cursor_words, letters_of, cell_at, cells_in, used_cells, rule_word, rule_named, walked_rule, path_of, place_at, cell_bytes, cells_bytes, stored_cursor}
use Rattle.forest.proofs.Search.{path-of-place}
use Rattle.forest.proofs.Stored.{AllFitting, gap, length-cell, length-cells, cell-back, cells-back, stored-parts}
use Rattle.demand.specs.Calls.{Call, Left, lent, walk_of, lefts, cursor_after_calls}
use Rattle.demand.specs.Demand.{turned_down, is_refused, finger_path, some_accepted, Above, Demand3}
use Rattle.demand.specs.OnePlace.{required, OnePlace}
use Rattle.demand.proofs.Walkable.{Walkable, Stands}
use Rattle.demand.proofs.Plans.{walkable}
use Rattle.demand.proofs.OneCall.{Came, one-call, word_fits, place_short, place-room, place-fits}
use Rattle.demand.proofs.Lists.{above-stands}
use Rattle.demand.proofs.Demand3.{demand3}

-- ---- the required words

-- cell 0, cells, and zeros up to the words that n rules need
front : ℕ → ℕ → Cells → List ℕ
front n w cs = cell_bytes (length cs, w, 0, 0) ++ (cells_bytes cs ++ replicate (gap n (length cs)) 0)

module _ (n w : ℕ) (cs : Cells) (room : cell_length * (length cs + 1) ≤ word_length * cursor_words n) where
  front_length : length (front n w cs) ≡ word_length * cursor_words n
  unfolding front
  front_length =
      simp (length-append, length-cell, length-cells, length-replicate) (omega arith)

  stored-front : (cursor : List ℕ) → required n (stored_cursor n w cs cursor) ≡ front n w cs
  unfolding front
  stored-front cursor =
      let rest : List ℕ = drop (word_length * cursor_words n) cursor in
      ap (required n)
      (stored-parts n w cs cursor room
      ∙ ap (λ (l : List ℕ). cell_bytes (length cs, w, 0, 0) ++ l) (sym (append_assoc (cells_bytes cs) (replicate (gap n (length cs)) 0) rest))
      ∙ sym (append_assoc (cell_bytes (length cs, w, 0, 0)) (cells_bytes cs ++ replicate (gap n (length cs)) 0) rest))
      ∙ take_at (front n w cs) rest (word_length * cursor_words n) front_length

-- they read back
module _ (n w : ℕ) (small : w < 65536) where
  front-used : (cs : Cells) → length cs < 65536 → (cell_at (front n w cs) 0).0 ≡ length cs
  unfolding front
  front-used cs few =
      ap (λ (c : Cell). c.0)
      (cell-back (length cs, w, 0, 0) [] (cells_bytes cs ++ replicate (gap n (length cs)) 0) 0 refl
      (record { kind = few; one = small; two = omega arith; three = omega arith }))

  front-cells : (cs : Cells) → AllFitting cs → cells_in (front n w cs) (length cs) ≡ cs
  unfolding front
  front-cells cs f = cells-back cs (cell_bytes (length cs, w, 0, 0)) (replicate (gap n (length cs)) 0) (length-cell (length cs, w, 0, 0)) f

  front_same : (cs ds : Cells) → length cs < 65536 → length ds < 65536 → AllFitting cs → AllFitting ds → front n w cs ≡ front n w ds → cs ≡ ds
  front_same cs ds few less f g e =
      let long : length cs ≡ length ds = sym (front-used cs few) ∙ ap (λ (l : List ℕ). (cell_at l 0).0) e ∙ front-used ds less in
      sym (front-cells cs f) ∙ ap₂ cells_in e long ∙ front-cells ds g

-- ---- lists of calls

module _ (s : List ℕ) (n start : ℕ) (first : List ℕ) (accepted : checked s ≡ Ok (record { n = n; start = start })) (r : ℕ) (names : walked_rule start first ≡ r) (C : Closed (rules_of s) r) where
  abbrev g : Forest ℕ
  g = forest (rules_of s) r

  abbrev G : Forest Placed
  G = placed_forest (rules_of s) r

  abbrev W : Walkable n g G
  W = walkable s n start accepted r C

  -- the required words are those of the node at p
  Fixed : List ℕ → Path → Type 0
  Fixed cursor p = required n cursor ≡ front n (rule_word first) (place_at G p)

  -- so they are after calls, at a node or above the forest
  FixedAfter : List ℕ → Path → List Call → Type 0
  FixedAfter cursor p calls =
      Fixed (cursor_after_calls walk_of s cursor calls) (finger_path g (turned_down n first) calls p) × Named G (finger_path g (turned_down n first) calls p)

  -- as soon as a call was accepted, whatever calls follow; was says whether an earlier one was
  more-fixed : (cursor : List ℕ) (p : Path) (was : Bool) (c : Call) (cs : List Call) → Came s n g G first cursor p c (walk_of (lent s cursor c))
      → Stands G first cursor p → (was ≡ true → Fixed cursor p) → (was || some_accepted (lefts walk_of s cursor (c ∷ cs))) ≡ true
      → ((x : List ℕ) (q : Path) (b : Bool) → Stands G first x q → (b ≡ true → Fixed x q) → (b || some_accepted (lefts walk_of s x cs)) ≡ true → FixedAfter x q cs)
      → FixedAfter cursor p (c ∷ cs)
  unfolding lefts some_accepted cursor_after_calls finger_path Fixed FixedAfter
  more-fixed cursor p was c cs (Came.turned d f same) S k e rest =
      rw d (rest (walk_of (lent s cursor c)).cursor p was (rw same S) (λ b. rw same (k b)) (rw f at e))
  more-fixed cursor p was c cs (Came.went d f T z a x) S k e rest =
      let q = path_after g (letters_of c.letters) p in
      let stored = stored-front n (rule_word first) (place_at G q) (place-room W q T.named) cursor in
      rw d (rest (walk_of (lent s cursor c)).cursor q true T (λ b. ap (required n) x ∙ stored) refl)

  all-fixed : (calls : List Call) (cursor : List ℕ) (p : Path) (was : Bool) → Stands G first cursor p → (was ≡ true → Fixed cursor p)
      → (was || some_accepted (lefts walk_of s cursor calls)) ≡ true → FixedAfter cursor p calls
  unfolding lefts some_accepted cursor_after_calls finger_path FixedAfter
  all-fixed [] cursor p true S k e = (k refl, S.named)
  all-fixed [] cursor p false S k e = absurd (false≢true e)
  all-fixed (c ∷ cs) cursor p was S k e =
      more-fixed cursor p was c cs (one-call s n start first accepted r names C cursor p S c) S k e (λ x q b. all-fixed cs x q b)

-- ---- two lists of calls

pub one_place : OnePlace walk_of
unfolding OnePlace Fixed FixedAfter walked_rule
one_place s n start first second cs ds accepted one two word some_one some-two = (same-node, same-words)
  where
    r : ℕ
    r = walked_rule start first

    C : Closed (rules_of s) r
    C = one.in_order.names

    other : walked_rule start second ≡ r
    other = ap (rule_named start) (sym word)

    p : Path
    p = finger_path (forest (rules_of s) r) (turned_down n first) cs []

    q : Path
    q = finger_path (forest (rules_of s) r) (turned_down n second) ds []

    G : Forest Placed
    G = placed_forest (rules_of s) r

    W : Walkable n (forest (rules_of s) r) G
    W = walkable s n start accepted r C

    A : (required n (cursor_after_calls walk_of s first cs) ≡ front n (rule_word first) (place_at G p)) × Named G p
    A = all-fixed s n start first accepted r refl C cs first [] false (above-stands s n start first accepted r refl C one) (λ b. absurd (false≢true b)) some_one

    B : (required n (cursor_after_calls walk_of s second ds) ≡ front n (rule_word second) (place_at G q)) × Named G q
    B = all-fixed s n start second accepted r other C ds second [] false (above-stands s n start second accepted r other C two) (λ b. absurd (false≢true b)) some-two

    same-words : p ≡ q → required n (cursor_after_calls walk_of s first cs) ≡ required n (cursor_after_calls walk_of s second ds)
    same-words e = A.0 ∙ ap₂ (λ (w : ℕ) (x : Path). front n w (place_at G x)) word e ∙ sym B.0

    same-node : required n (cursor_after_calls walk_of s first cs) ≡ required n (cursor_after_calls walk_of s second ds) → p ≡ q
    same-node e =
        let fronts = sym A.0 ∙ e ∙ B.0 ∙ ap (λ (w : ℕ). front n w (place_at G q)) (sym word) in
        let few = W.few in
        let short = place_short W p A.1 in
        let less = place_short W q B.1 in
        let cells = front_same n (rule_word first) (word_fits s n start first accepted r refl C) (place_at G p) (place_at G q) (omega arith) (omega arith) (place-fits W p A.1) (place-fits W q B.1) fronts in
        let paths : Some p ≡ Some q = sym (path-of-place G W.distinct p A.1) ∙ ap (path_of G) cells ∙ path-of-place G W.distinct q B.1 in
        cc

-- the first of a list of tests
first_of : Bool → List Bool → Bool
first_of b [] = b
first_of b (x ∷ xs) = x

-- one call each, with their letters: "two strings of letters .. in walks that aren't refused"
module _ (s : List ℕ) (n start : ℕ) (first second : List ℕ) (c d : Call) (accepted : checked s ≡ Ok (record { n = n; start = start }))
    (one : Above (rules_of s) start first) (two : Above (rules_of s) start second) (word : rule_word first ≡ rule_word second)
    (a : (walk_of (lent s first c)).answer ≡ Ok tt) (b : (walk_of (lent s second d)).answer ≡ Ok tt) where
  abbrev walked : Forest ℕ
  walked = forest (rules_of s) (walked_rule start first)

  -- an accepted call isn't turned down
  not-down : (cursor : List ℕ) (e : Call) → Above (rules_of s) start cursor → (walk_of (lent s cursor e)).answer ≡ Ok tt → turned_down n cursor e ≡ false
  unfolding Demand3 lefts is_refused first_of
  not-down cursor e above x =
      let refused = (demand3 s n start cursor (e ∷ []) accepted above).refused in
      sym (ap (first_of true) refused) ∙ ap is_refused x

  some-call : (cursor : List ℕ) (e : Call) → (walk_of (lent s cursor e)).answer ≡ Ok tt → some_accepted (lefts walk_of s cursor (e ∷ [])) ≡ true
  unfolding some_accepted lefts is_refused
  some-call cursor e x = rw x

  path-of : (cursor : List ℕ) (e : Call) → turned_down n cursor e ≡ false → finger_path walked (turned_down n cursor) (e ∷ []) [] ≡ path_after walked (letters_of e.letters) []
  unfolding finger_path
  path-of cursor e x = rw x

  pub two-strings : (required n (walk_of (lent s first c)).cursor ≡ required n (walk_of (lent s second d)).cursor)
      ↔ (path_after walked (letters_of c.letters) [] ≡ path_after walked (letters_of d.letters) [])
  unfolding OnePlace cursor_after_calls
  two-strings =
      let both = one_place s n start first second (c ∷ []) (d ∷ []) accepted one two word (some-call first c a) (some-call second d b) in
      let p = path-of first c (not-down first c one a) in
      let q = path-of second d (not-down second d two b) in
      (λ e. sym p ∙ both.0 e ∙ q, λ e. both.1 (p ∙ e ∙ sym q))
