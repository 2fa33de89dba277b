-- Document 02, Note 10, of the walk: the word that names the walked rule stays through every call; two cursors that name the same rule, as
-- the start rule by 0 and by its number, are answered alike; and with word 1 zero every call is what it was before. A place that 10
-- doesn't refuse stands at a node of the walked rule's forest, so what a call comes to is known whatever is lent; the rest follows from
-- demand 3, whose finger is fed the rule and nothing else of the word. Assumes nothing.
use Prim.Native.Nat.{ℕ, suc, ◌+◌, ◌*◌}
use mathlib.Core.Path.{◌≡◌, refl, sym, ap, ap₂, ◌∙◌}
use mathlib.Core.Bool.{Bool, true, false, cond, ◌&&◌}
use mathlib.Core.List.{List, [], map}
use Rattle.std.specs.Prelude.{Option, None, Some, Result, Ok, Err}
use lib.ListN.{length}
use lib.Dec.{leb, eqb}
use Rattle.rule.specs.declared.Rule.{Rule}
use Rattle.rule.specs.Sound.{Closed}
use Rattle.refusal.specs.declared.Refusal.{Refusal}
use Rattle.plan.specs.declared.Checked.{Checked}
use Rattle.plan.specs.Check.{checked, rules_of}
use Rattle.forest.specs.Forest.{forest}
use Rattle.forest.specs.Place.{Cells, placed_forest}
use Rattle.forest.specs.Reference.{Path, path_after}
use Rattle.forest.specs.Walk.{cell_words, cursor_words, enough_lent, letters_of, first_other, cell_at, cells_in, used_cells, rule_word, walked_rule, headed, path_of, Begun, stored, place_in, place_judged, letters_judged, begun_from, begun, walked, place_at, stored_cursor, cursor_after, answer_word, answers_after, walked_work}
use Rattle.forest.proofs.Search.{path-cells, path-named}
use Rattle.forest.proofs.WalkedRule.{closed-walked, walked-closed, start-by-zero, named-by-number, Holds, judged-holds}
use Rattle.demand.specs.Calls.{Lent, Left, Call, lent, walk_of, lefts, cursor_after_calls}
use Rattle.demand.specs.Demand.{turned_down, is_refused, finger_path, finger_answers, walk_answers, Above, Demand3}
use Rattle.demand.proofs.Passed.{headed-zeros, length-cells_in}
use Rattle.demand.proofs.Walkable.{Stands}
use Rattle.demand.proofs.Plans.{walkable, start-closed}
use Rattle.demand.proofs.OneCall.{Came, one-call, stands_word, refused-keeps}
use Rattle.demand.proofs.Demand3.{demand3}

-- ---- a place that 10 doesn't refuse

module _ (s : List ℕ) (n start : ℕ) (cursor : List ℕ) (accepted : checked s ≡ Ok (record { n = n; start = start })) {m r : ℕ} {p : Path} (H : Holds (rules_of s) n start m r cursor p) where
  pub holds-closed : Closed (rules_of s) r
  holds-closed = walked-closed (rules_of s) r H.can_walk

  -- stands at the node at its path
  pub holds-stands : Stands (placed_forest (rules_of s) r) cursor cursor p
  holds-stands =
      let G = placed_forest (rules_of s) r in
      let k = used_cells cursor in
      let there = path-cells G (cells_in cursor k) p H.leads in
      let long : length (place_at G p) ≡ k = ap length there ∙ length-cells_in cursor k in
      record {
        named = path-named G (cells_in cursor k) p H.leads;
        same_length = refl;
        head = (headed-zeros n cursor H.in_order).0 ∙ ap (λ (j : ℕ). (j, rule_word cursor, 0, 0)) (sym long);
        cells = ap (cells_in cursor) long ∙ sym there;
      }

-- ---- the word stays

-- a call whose place is refused is refused
turned-place : (t : Bool) (x : Option ℕ) (y : Refusal)
    → (z : Refusal) × (cond t (letters_judged x (Begun.refused y)) (Begun.refused Refusal.Lent) ≡ Begun.refused z)
unfolding letters_judged
turned-place true None y = (y, refl)
turned-place true (Some i) y = (Refusal.Letter i, refl)
turned-place false x y = (Refusal.Lent, refl)

-- "The word stays through every walk": whatever is lent, accepted or refused
pub word-stays : (l : Lent) → rule_word (walk_of l).cursor ≡ rule_word l.cursor
unfolding walk_of lent begun begun_from
word-stays l = by-check (checked s) refl
  where
    s : List ℕ
    s = l.plan

    c : Call
    c = record { work = l.work; letters = l.letters; answers = l.answers }

    kept : {z : Refusal} → begun s l.work l.cursor l.letters l.answers ≡ Begun.refused z → rule_word (walk_of l).cursor ≡ rule_word l.cursor
    kept b = ap rule_word (refused-keeps (rules_of s) l.letters l.cursor b)

    by_place : (n start : ℕ) → checked s ≡ Ok (record { n = n; start = start }) → (b : Begun) → place_judged (rules_of s) n start l.cursor ≡ b
        → rule_word (walk_of l).cursor ≡ rule_word l.cursor
    by_place n start a (Begun.refused y) b =
        let z = turned-place (enough_lent l.work l.cursor l.letters l.answers n) (first_other l.letters 0) y in
        kept {z = z.0} (rw (a, b) z.1)
    by_place n start a (Begun.at m r p) b =
        let H = judged-holds (rules_of s) n start m r l.cursor p b in
        let C = holds-closed s n start l.cursor a H in
        came (one-call s n start l.cursor a r H.walks C l.cursor p (holds-stands s n start l.cursor a H) c)
      where
        came : Came s n (forest (rules_of s) r) (placed_forest (rules_of s) r) l.cursor l.cursor p c (walk_of (lent s l.cursor c)) → rule_word (walk_of l).cursor ≡ rule_word l.cursor
        came (Came.turned d f k) = ap rule_word k
        came (Came.went d f T k w x) = stands_word (walkable s n start a r (holds-closed s n start l.cursor a (judged-holds (rules_of s) n start m r l.cursor p b))) T

    by-check : (x : Result Checked Refusal) → checked s ≡ x → rule_word (walk_of l).cursor ≡ rule_word l.cursor
    by-check (Err y) a = kept {z = y} (rw a)
    by-check (Ok x) a = by_place x.n x.start a (place_judged (rules_of s) x.n x.start l.cursor) refl

-- ---- one rule by two words

-- the same calls from two cursors: the same are refused, with the same answers, and at the end the same cells are used
pub record Alike (s first second : List ℕ) (calls : List Call) : Type 0 where
  pub refused : map (λ (l : Left). is_refused l.answer) (lefts walk_of s first calls) ≡ map (λ (l : Left). is_refused l.answer) (lefts walk_of s second calls)
  pub answered : walk_answers calls (lefts walk_of s first calls) ≡ walk_answers calls (lefts walk_of s second calls)
  pub used : used_cells (cursor_after_calls walk_of s first calls) ≡ used_cells (cursor_after_calls walk_of s second calls)
  pub stored : cells_in (cursor_after_calls walk_of s first calls) (used_cells (cursor_after_calls walk_of s first calls))
      ≡ cells_in (cursor_after_calls walk_of s second calls) (used_cells (cursor_after_calls walk_of s second calls))

-- what 8 and 9 look at is the cursor's length
same-down : (n : ℕ) (first second : List ℕ) → length first ≡ length second → turned_down n first ≡ turned_down n second
unfolding turned_down enough_lent
same-down n first second e = λ i c. down c i
  where
    down : (c : Call) → turned_down n first c ≡ turned_down n second c
    down c = rw e

module _ (s : List ℕ) (n start : ℕ) (accepted : checked s ≡ Ok (record { n = n; start = start })) (first second : List ℕ) (one : Above (rules_of s) start first) (two : Above (rules_of s) start second)
    (long : length first ≡ length second) where
  pub named-alike : walked_rule start first ≡ walked_rule start second → (calls : List Call) → Alike s first second calls
  unfolding Demand3
  named-alike same calls =
      let M = demand3 s n start first calls accepted one in
      let N = demand3 s n start second calls accepted two in
      let down = same-down n first second long in
      let placed : ℕ → (Call → Bool) → Cells = λ r d. place_at (placed_forest (rules_of s) r) (finger_path (forest (rules_of s) r) d calls []) in
      record {
        refused = M.refused ∙ ap (λ (d : Call → Bool). map d calls) down ∙ sym N.refused;
        answered =
            M.answered
            ∙ ap₂ (λ (r : ℕ) (d : Call → Bool). map answer_word (finger_answers (forest (rules_of s) r) d calls [])) same down
            ∙ sym N.answered;
        used = M.used ∙ ap₂ (λ (r : ℕ) (d : Call → Bool). length (placed r d)) same down ∙ sym N.used;
        stored = M.stored ∙ ap₂ placed same down ∙ sym N.stored;
      }

  -- "The start rule may also be named by number and gives the same answers."
  pub start-by-number : rule_word first ≡ 0 → rule_word second ≡ suc start → (calls : List Call) → Alike s first second calls
  start-by-number zero number = named-alike (start-by-zero start first zero ∙ sym (named-by-number start start second number))

-- ---- "Old cursors have 0 and go on."

-- the walk as it was: three zeros in cell 0, and the start rule's forest
headed_before : ℕ → List ℕ → Bool
headed_before n s =
    eqb (cell_at s 0).1 0 && (eqb (cell_at s 0).2 0 && (eqb (cell_at s 0).3 0 && leb (cell_words * (used_cells s + 1)) (cursor_words n)))

place_before : List Rule → ℕ → ℕ → List ℕ → Begun
place_before R n start cursor =
    cond (headed_before n cursor) (stored n start (path_of (placed_forest R start) (cells_in cursor (used_cells cursor)))) (Begun.refused Refusal.Place)

begun_before : Lent → Result Checked Refusal → Begun
begun_before l (Ok x) =
    cond (enough_lent l.work l.cursor l.letters l.answers x.n)
    (letters_judged (first_other l.letters 0) (place_before (rules_of l.plan) x.n x.start l.cursor))
    (Begun.refused Refusal.Lent)
begun_before l (Err r) = Begun.refused r

cursor_before : List Rule → Begun → List ℕ → List ℕ → List ℕ
cursor_before R (Begun.refused r) letters cursor = cursor
cursor_before R (Begun.at n r p) letters cursor = stored_cursor n 0 (place_at (placed_forest R r) (path_after (forest R r) (letters_of letters) p)) cursor

pub walk_before : Lent → Left
walk_before l =
    let b = begun_before l (checked l.plan) in
    record {
      answer = walked b;
      work = walked_work l.plan l.work l.cursor l.letters l.answers;
      cursor = cursor_before (rules_of l.plan) b l.letters l.cursor;
      answers = answers_after (rules_of l.plan) b l.letters l.answers;
    }

module _ (l : Lent) (zero : rule_word l.cursor ≡ 0) where
  head-same : (n : ℕ) → headed_before n l.cursor ≡ headed n l.cursor
  unfolding headed_before headed rule_word
  head-same n = rw zero

  place_same : (n start : ℕ) → checked l.plan ≡ Ok (record { n = n; start = start })
      → place_before (rules_of l.plan) n start l.cursor ≡ place_judged (rules_of l.plan) n start l.cursor
  unfolding place_before place_judged place_in
  place_same n start e =
      rw (start-by-zero start l.cursor zero, closed-walked (rules_of l.plan) start (start-closed l.plan n start e), head-same n)

  begun-same : (x : Result Checked Refusal) → checked l.plan ≡ x → begun_before l x ≡ begun_from l.plan l.work l.cursor l.letters l.answers x
  unfolding begun_before begun_from
  begun-same (Ok x) e =
      ap (λ (b : Begun). cond (enough_lent l.work l.cursor l.letters l.answers x.n) (letters_judged (first_other l.letters 0) b) (Begun.refused Refusal.Lent))
      (place_same x.n x.start e)
  begun-same (Err r) e = refl

  cursor-same : (b : Begun) → cursor_before (rules_of l.plan) b l.letters l.cursor ≡ cursor_after (rules_of l.plan) b l.letters l.cursor
  unfolding cursor_before cursor_after
  cursor-same (Begun.refused r) = refl
  cursor-same (Begun.at n r p) =
      ap (λ (w : ℕ). stored_cursor n w (place_at (placed_forest (rules_of l.plan) r) (path_after (forest (rules_of l.plan) r) (letters_of l.letters) p)) l.cursor) (sym zero)

  -- a call on a cursor whose word 1 is zero is what it was, in all that it answers and leaves
  pub as_before : walk_before l ≡ walk_of l
  unfolding walk_before walk_of begun
  as_before =
      let b = begun-same (checked l.plan) refl in
      λ i. record {
        answer = walked (b i);
        work = walked_work l.plan l.work l.cursor l.letters l.answers;
        cursor = (ap (λ (x : Begun). cursor_before (rules_of l.plan) x l.letters l.cursor) b ∙ cursor-same (begun_from l.plan l.work l.cursor l.letters l.answers (checked l.plan))) i;
        answers = answers_after (rules_of l.plan) (b i) l.letters l.answers;
      }

  -- and it leaves the word zero
  pub old-word : rule_word (walk_before l).cursor ≡ 0
  old-word = ap (λ (x : Left). rule_word x.cursor) as_before ∙ word-stays l ∙ zero
