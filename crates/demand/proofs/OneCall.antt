-- One call of the walk on a cursor that stands at a node: refused exactly when 8 or 9 says so, and then nothing changes; else
-- the answers are the finger's, and the cursor stands at the node at the finger's path, with zeros past its cells.
-- Assumes nothing.
use Prim.Native.Nat.{ℕ, ◌+◌, ◌*◌, ◌≤◌, ◌<◌}
use native.Mathlib.Omega.{arith}
use mathlib.Core.Path.{◌≡◌, refl, sym, ap, ◌∙◌, subst}
use mathlib.Core.Bool.{Bool, true, false, cond, ◌&&◌}
use mathlib.Core.List.{List, map}
use Rattle.std.specs.Prelude.{Option, None, Some, Ok}
use lib.ListN.{length}
use lib.Dec.{leb, eqb}
use borrow.Author.Tests.{le-leb}
use Rattle.rule.specs.declared.Rule.{Rule}
use Rattle.rule.specs.Sound.{Closed}
use Rattle.refusal.specs.declared.Refusal.{Refusal}
use Rattle.record.specs.Record.{word_length}
use Rattle.plan.specs.Check.{checked, rules_of}
use Rattle.plan.proofs.Sound.{checked-plan}
use Rattle.forest.specs.Forest.{Forest, forest}
use Rattle.forest.specs.Place.{Cell, Placed, placed_forest}
use Rattle.forest.specs.Reference.{Path, label_at, moved, answers, path_after}
use Rattle.forest.specs.Walk.{cell_length, cell_words, cursor_words, enough_lent, letters_of, first_other, cells_in, used_cells, rule_word, rule_named, walked_rule, headed, path_of, Begun, stored, place_in, place_judged, letters_judged, begun_from, begun, walked, place_at, cells_of, stored_cursor, cursor_after, answer_word, answers_after, answers_bytes}
use Rattle.forest.specs.Letter.{Letter}
use Rattle.forest.proofs.Forget.{label}
use Rattle.forest.proofs.Relabel.{path_after-relabel, moved-relabel}
use Rattle.forest.proofs.Search.{path-of-place}
use Rattle.forest.proofs.Steps.{after-named}
use Rattle.forest.specs.Position.{Named}
use Rattle.forest.proofs.WalkedRule.{closed-walked, word_small}
use Rattle.forest.proofs.Stored.{AllFitting, stored-length, stored-head, stored-cells, stored-clear}
use Rattle.demand.specs.Calls.{Lent, Left, Call, lent, walk_of}
use Rattle.demand.specs.Demand.{turned_down, is_none, is_refused, answer_words, ClearPast}
use Rattle.words.specs.Front.{in_front}
use Rattle.demand.proofs.Passed.{lent-enough}
use Rattle.demand.proofs.Words.{words-in-front, length-answers, length-letters, length-words, answers-fit}
use Rattle.demand.proofs.Walkable.{Walkable, Stands}
use Rattle.demand.proofs.Plans.{walkable}

-- the place of a node, or above the forest, is short
pub place_short : {n : ℕ} {g : Forest ℕ} {G : Forest Placed} → Walkable n g G → (p : Path) → Named G p → length (place_at G p) ≤ 3 * n
unfolding place_at cells_of label_at
place_short W p Named.above = omega arith
place_short W p (Named.node {a = a} e) = rw e (W.bounded p a e)

module _ {n : ℕ} {g : Forest ℕ} {G : Forest Placed} {first cursor : List ℕ} {p : Path} (W : Walkable n g G) (S : Stands G first cursor p) where
  -- the number of used cells
  pub stands-used : used_cells cursor ≡ length (place_at G p)
  unfolding used_cells
  stands-used = ap (λ (c : Cell). c.0) S.head

  -- the word that names the walked rule
  pub stands_word : rule_word cursor ≡ rule_word first
  unfolding rule_word
  stands_word = ap (λ (c : Cell). c.1) S.head

  -- cell 0 passes the test
  stands-headed : headed n cursor ≡ true
  unfolding headed used_cells cursor_words
  stands-headed =
      ap (λ (c : Cell). eqb c.2 0 && (eqb c.3 0 && leb (cell_words * (c.0 + 1)) (16 * (n + 1)))) S.head
      ∙ le-leb (cell_words * (length (place_at G p) + 1)) (16 * (n + 1)) (let h = place_short W p S.named in omega arith)

  -- and the stored cells lead to the node
  stands-found : path_of G (cells_in cursor (used_cells cursor)) ≡ Some p
  stands-found =
      ap (λ (k : ℕ). path_of G (cells_in cursor k)) stands-used ∙ ap (path_of G) S.cells ∙ path-of-place G W.distinct p S.named

  -- what 8 looks at is the slices' lengths
  stands-lent : (work letters given : List ℕ) → enough_lent work cursor letters given n ≡ enough_lent work first letters given n
  unfolding enough_lent
  stands-lent work letters given = rw S.same_length

-- the finger on the forest and on the places takes the same paths
pub same-paths : {n : ℕ} {g : Forest ℕ} {G : Forest Placed} → Walkable n g G → (cs : List Letter) (p : Path) → path_after g cs p ≡ path_after G cs p
same-paths {G = G} W cs p = ap (λ (x : Forest ℕ). path_after x cs p) (sym W.forgets) ∙ path_after-relabel label G cs p

pub same_move : {n : ℕ} {g : Forest ℕ} {G : Forest Placed} → Walkable n g G → (c : Letter) (p : Path) → moved g c p ≡ moved G c p
same_move {G = G} W c p = ap (λ (x : Forest ℕ). moved x c p) (sym W.forgets) ∙ moved-relabel label G c p

pub named-after : {n : ℕ} {g : Forest ℕ} {G : Forest Placed} → Walkable n g G → (cs : List Letter) (p : Path) → Named G p → Named G (path_after g cs p)
named-after {G = G} W cs p N = rw (same-paths W cs p) (after-named G cs p N)

-- the room that a node's cells need is there
pub place-room : {n : ℕ} {g : Forest ℕ} {G : Forest Placed} → Walkable n g G → (p : Path) → Named G p → cell_length * (length (place_at G p) + 1) ≤ word_length * cursor_words n
unfolding cursor_words
place-room W p N = let h = place_short W p N in omega arith

pub place-fits : {n : ℕ} {g : Forest ℕ} {G : Forest Placed} → Walkable n g G → (p : Path) → Named G p → AllFitting (place_at G p)
unfolding place_at cells_of label_at
place-fits W p Named.above = tt
place-fits W p (Named.node {a = a} e) = rw e (W.fitting p a e)

-- a cursor stored for a node, with the first one's word, stands there
pub stored-stands : {n : ℕ} {g : Forest ℕ} {G : Forest Placed} → Walkable n g G → (first cursor : List ℕ) (w : ℕ) (q : Path) → Named G q → rule_word first ≡ w → w < 65536
    → length cursor ≡ length first → word_length * cursor_words n ≤ length first → Stands G first (stored_cursor n w (place_at G q) cursor) q
stored-stands {n} {G = G} W first cursor w q N word small same enough =
    let room = place-room W q N in
    record {
      named = N;
      same_length = stored-length n w (place_at G q) cursor room (omega arith) ∙ same;
      head =
          stored-head n w (place_at G q) cursor room (let h = place_short W q N in let f = W.few in omega arith) small
          ∙ ap (λ (v : ℕ). (length (place_at G q), v, 0, 0)) (sym word);
      cells = stored-cells n w (place_at G q) cursor room (place-fits W q N);
    }

-- a call that is refused leaves the cursor, whatever its letters
pub refused-keeps : (R : List Rule) (letters cursor : List ℕ) {b : Begun} {r : Refusal} → b ≡ Begun.refused r → cursor_after R b letters cursor ≡ cursor
unfolding cursor_after
refused-keeps R letters cursor e = rw e

-- what a call comes to, from a cursor at the node at p
pub data Came (s : List ℕ) (n : ℕ) (g : Forest ℕ) (G : Forest Placed) (first cursor : List ℕ) (p : Path) (c : Call) (l : Left) : Type 0 where
  turned : turned_down n first c ≡ true → is_refused l.answer ≡ true → l.cursor ≡ cursor → Came s n g G first cursor p c l
  went : turned_down n first c ≡ false → is_refused l.answer ≡ false → Stands G first l.cursor (path_after g (letters_of c.letters) p)
      → ClearPast n (length (place_at G (path_after g (letters_of c.letters) p))) l.cursor
      → answer_words (length c.letters) l.answers 0 ≡ map answer_word (answers g (letters_of c.letters) p)
      → l.cursor ≡ stored_cursor n (rule_word first) (place_at G (path_after g (letters_of c.letters) p)) cursor
      → Came s n g G first cursor p c l

-- calls on cursors whose word 1 names rule r, as that of the first one does
module _ (s : List ℕ) (n start : ℕ) (first : List ℕ) (accepted : checked s ≡ Ok (record { n = n; start = start })) (r : ℕ) (names : walked_rule start first ≡ r) (C : Closed (rules_of s) r) where
  abbrev g : Forest ℕ
  g = forest (rules_of s) r

  abbrev G : Forest Placed
  G = placed_forest (rules_of s) r

  abbrev W : Walkable n g G
  W = walkable s n start accepted r C

  -- the word fits its two bytes
  pub word_fits : rule_word first < 65536
  unfolding walked_rule
  word_fits =
      let P = checked-plan s n start accepted in
      let below = C.below in
      let few = word_small start (rule_word first) (length (rules_of s)) (rw names below) in
      let most = P.greatest in
      let long = P.rules in
      omega arith

  -- the rule walked from a cursor that stands at a node
  stands-walked : (cursor : List ℕ) (p : Path) → Stands G first cursor p → walked_rule start cursor ≡ r
  unfolding walked_rule
  stands-walked cursor p S = ap (rule_named start) (stands_word W S) ∙ names

  pub placed-judged : (cursor : List ℕ) (p : Path) → Stands G first cursor p → place_judged (rules_of s) n start cursor ≡ Begun.at n r p
  unfolding place_judged place_in stored
  placed-judged cursor p S = rw (stands-walked cursor p S, closed-walked (rules_of s) r C, stands-headed W S, stands-found W S)

  -- a call begins as 8 and 9 say, and else at the node
  pub begins : (cursor : List ℕ) (p : Path) → Stands G first cursor p → (c : Call)
      → begun s c.work cursor c.letters c.answers ≡ cond (enough_lent c.work first c.letters c.answers n) (letters_judged (first_other c.letters 0) (Begun.at n r p)) (Begun.refused Refusal.Lent)
  unfolding begun begun_from
  begins cursor p S c = rw (accepted, stands-lent W S c.work c.letters c.answers, placed-judged cursor p S)

  -- a call that is refused
  call-turned : (cursor : List ℕ) (p : Path) (c : Call) (x : Refusal) → turned_down n first c ≡ true → begun s c.work cursor c.letters c.answers ≡ Begun.refused x
      → Came s n g G first cursor p c (walk_of (lent s cursor c))
  unfolding walk_of lent is_refused
  call-turned cursor p c x d b = Came.turned d (ap (λ (x : Begun). is_refused (walked x)) b) (refused-keeps (rules_of s) _ cursor b)

  -- a call that is accepted
  call-went : (cursor : List ℕ) (p : Path) (c : Call) → Stands G first cursor p → enough_lent c.work first c.letters c.answers n ≡ true → first_other c.letters 0 ≡ None
      → begun s c.work cursor c.letters c.answers ≡ Begun.at n r p
      → Came s n g G first cursor p c (walk_of (lent s cursor c))
  unfolding walk_of lent is_refused turned_down is_none ClearPast
  call-went cursor p c S e f b =
      Came.went
      (rw (e, f))
      (ap (λ (x : Begun). is_refused (walked x)) b)
      (subst (λ (x : List ℕ). Stands G first x q) (sym new) (stored-stands W first cursor (rule_word first) q N refl word_fits S.same_length (lent-enough n c.work first c.letters c.answers e)))
      (subst (λ (x : List ℕ). ClearPast n (length (place_at G q)) x) (sym new) (stored-clear n (rule_word first) (place_at G q) cursor (place-room W q N)))
      (ap (λ (x : List ℕ). answer_words (length c.letters) x 0) (ap (λ (x : Begun). answers_after (rules_of s) x c.letters c.answers) b) ∙ words)
      new
    where
      q : Path
      q = path_after g (letters_of c.letters) p

      N : Named G q
      N = named-after W (letters_of c.letters) p S.named

      new : cursor_after (rules_of s) (begun s c.work cursor c.letters c.answers) c.letters cursor ≡ stored_cursor n (rule_word first) (place_at G q) cursor
      new =
          ap (λ (x : Begun). cursor_after (rules_of s) x c.letters cursor) b
          ∙ ap (λ (w : ℕ). stored_cursor n w (place_at G q) cursor) (stands_word W S)

      replies : List ℕ
      replies = map answer_word (answers g (letters_of c.letters) p)

      count : length replies ≡ length c.letters
      count = length-words answer_word (answers g (letters_of c.letters) p) ∙ length-answers g (letters_of c.letters) p ∙ length-letters c.letters 0 f

      words : answer_words (length c.letters) (in_front (answers_bytes replies) c.answers) 0 ≡ replies
      words =
          ap (λ (m : ℕ). answer_words m (in_front (answers_bytes replies) c.answers) 0) (sym count)
          ∙ words-in-front replies c.answers (answers-fit g W.labels (letters_of c.letters) p)

  -- every call is one or the other
  pub one-call : (cursor : List ℕ) (p : Path) → Stands G first cursor p → (c : Call)
      → Came s n g G first cursor p c (walk_of (lent s cursor c))
  unfolding turned_down is_none letters_judged
  one-call cursor p S c = go (enough_lent c.work first c.letters c.answers n) (first_other c.letters 0) refl refl
    where
      go : (t : Bool) (x : Option ℕ) → enough_lent c.work first c.letters c.answers n ≡ t → first_other c.letters 0 ≡ x
          → Came s n g G first cursor p c (walk_of (lent s cursor c))
      go true None e f = call-went cursor p c S e f (begins cursor p S c ∙ rw (e, f))
      go true (Some i) e f = call-turned cursor p c (Refusal.Letter i) (rw (e, f)) (begins cursor p S c ∙ rw (e, f))
      go false x e f = call-turned cursor p c Refusal.Lent (rw e) (begins cursor p S c ∙ rw e)
