-- A call on the rows of a plan's rules: the stored place is turned down, or the letters are taken from it and the place that they
-- lead to is stored, with the word that names the walked rule. Assumes nothing.
use Rattle.std.specs.Prelude.{Ok, Err}
use Prim.Native.Nat.{ℕ, ◌+◌, ◌*◌, ◌≤◌}
use native.Mathlib.Omega.{arith}
use mathlib.Core.Path.{◌≡◌, sym, ap, ap₂, subst, ◌∙◌}
use mathlib.Core.List.{List, map}
use lib.ListN.{length}
use Rattle.rule.specs.declared.Rule.{Rule}
use Rattle.refusal.specs.declared.Refusal.{Refusal}
use Rattle.words.specs.Front.{in_front}
use Rattle.forest.specs.Place.{Cells}
use Rattle.forest.specs.Walk.{cell_length, cursor_words, cell_at, cells_in, rule_word, Begun, place_judged, walked, stored_cursor, cursor_after, answers_after, letters_of, answer_word, answers_bytes}
use Rattle.model.specs.Facts.{Facts, facts_of}
use Rattle.model.specs.Walk.{answers, after}
use Rattle.work_rows.proofs.Rows.{within_both, within_wider}
use Rattle.facts.specs.Facts.{row_count, facts_in}
use Rattle.row_links.specs.Links.{Linkable, Linked, Relinked}
use Rattle.row_links.proofs.Linking.{linkable-fewer, linkable-kept}
use Rattle.place_cells.specs.Cells.{cursor_length, most_cells}
use Rattle.place_cells.proofs.Writes.{length-cells}
use Rattle.place_store.specs.declared.Head.{Head}
use Rattle.place_store.specs.Head.{head_of}
use Rattle.place_store.proofs.Stores.{stored_same}
use Rattle.letter_arrival.specs.declared.Standing.{Standing}
use Rattle.letter_moves.specs.Standing.{Valid, rules_kept, Stands}
use Rattle.letter_moves.proofs.Stands.{stands-few}
use Rattle.letter_run.specs.Ran.{Ran}
use Rattle.place_open.specs.Open.{OpensAt}
use Rattle.place_open.proofs.Begin.{answers_left, cursor_left}
use Rattle.walk_place.specs.Travel.{Travels, Walks}

-- a call that is turned down leaves all as it was
pub refused-walks : (R : List Rule) {b : Begun} (why : Refusal) (letters cursor given : List ℕ) → b ≡ Begun.refused why → Walks R b letters cursor cursor given given (Err why)
unfolding walked cursor_after answers_after
refused-walks R why letters cursor given e = record { answer = rw e; cursor_left = rw e; answers_left = rw e }

module _ {start n : ℕ} {t s letters given : List ℕ} (J : Travels start n t s letters given) {r : ℕ} {h : Standing} (O : OpensAt t n start s r h) where
  -- there is room for the links of every place, and so for those of this one
  roomy : Linkable t s (most_cells (row_count t))
  unfolding cursor_words
  roomy =
      let room = J.place.room in
      let many = J.place.count in
      let whole = J.whole in
      let few = J.few in
      record { apart = omega arith; room = omega arith; small = omega arith }

  pub fillable : Linkable t s h.used
  fillable = let few = stands-few O.place in linkable-fewer h.used (omega arith) roomy

  module _ {s₁ : List ℕ} (f : Linked t s₁ (cells_in s₁ h.used) × Relinked t h.used s s₁) where
    pub ready : Stands r t s₁ h.used h.rule
    ready =
        let same = f.1.within.same_length in
        let room = O.place.room in
        record {
          placed = record {
            rows = O.place.rows;
            room = omega arith;
            valid = subst (λ (l : Cells). Valid (rules_kept t) r (h.rule, l)) (sym f.1.cells) O.place.valid;
          };
          linkable = linkable-kept same roomy;
          linked = f.0;
        }

    -- what is stored lies in the words that n rules need
    pub arrived-lies : {s' given' : List ℕ} {end : ℕ} → Ran r t letters h s₁ s' given given' end → (cell_length * (end + 1) ≤ cursor_length n) × (cursor_length n ≤ length s')
    unfolding cursor_words
    arrived-lies x =
        let same = x.within.same_length in
        let before = f.1.within.same_length in
        let room = J.place.room in
        let many = J.place.count in
        let few = x.few in
        (omega arith, omega arith)

    -- and so does what was stored before
    pub begun-lies : {s' given' : List ℕ} {end : ℕ} → Ran r t letters h s₁ s' given given' end → (cell_length * (h.used + 1) ≤ cursor_length n) × (cursor_length n ≤ length s')
    unfolding cursor_words
    begun-lies x =
        let same = x.within.same_length in
        let before = f.1.within.same_length in
        let room = J.place.room in
        let many = J.place.count in
        let few = stands-few O.place in
        (omega arith, omega arith)

    judged-accepted : (Ok tt) ≡ walked (place_judged (rules_kept t) n start s)
    unfolding walked
    judged-accepted = rw O.begun

    pub arrived : {s' s'' given' : List ℕ} {end : ℕ} {x : Head} → Ran r t letters h s₁ s' given given' end → x ≡ head_of (cell_at s 0)
        → s'' ≡ stored_cursor n x.word (cells_in s' end) s'
        → Walks (rules_kept t) (place_judged (rules_kept t) n start s) letters s s'' given given' (Ok tt)
    unfolding cursor_words rule_word
    arrived {s'} {s''} {given'} {end} x read e =
        let many = J.place.count in
        let lies = arrived-lies x in
        let T = O.place.rows in
        let whole = J.whole in
        let kept = f.1.cells in
        let cs = (after (facts_of (rules_kept t)) r (letters_of letters) (h.rule, cells_in s h.used)).1 in
        let ends : cells_in s' end ≡ cs = x.cells ∙ ap (λ (l : Cells). (after (facts_in t) r (letters_of letters) (h.rule, l)).1) kept ∙ ap (λ (F : Facts). (after F r (letters_of letters) (h.rule, cells_in s h.used)).1) T.facts_are in
        let long : length cs ≡ end = ap length (sym ends) ∙ length-cells s' end in
        let few : cell_length * (length cs + 1) ≤ cursor_length n = rw long lies.0 in
        let apart = fillable.apart in
        let links = within_wider cell_length (cursor_length n) (omega arith) (omega arith) f.1.within in
        let wide = within_both links (within_wider cell_length (cursor_length n) (omega arith) (omega arith) x.within) in
        record {
          answer = judged-accepted;
          cursor_left =
              e
              ∙ ap₂ (λ (y : Head) (l : Cells). stored_cursor n y.word l s') read ends
              ∙ stored_same n (rule_word s) cs s s' few wide.same_after
              ∙ sym (cursor_left T.sound T.closed n O.path (h.rule, cells_in s h.used) O.stood letters s)
              ∙ ap (λ (b : Begun). cursor_after (rules_kept t) b letters s) (sym O.begun);
          answers_left =
              x.answered ∙ ap (λ (l : Cells). in_front (answers_bytes (map answer_word (answers (facts_in t) r (letters_of letters) (h.rule, l)))) given) kept
              ∙ ap (λ (F : Facts). in_front (answers_bytes (map answer_word (answers F r (letters_of letters) (h.rule, cells_in s h.used)))) given) T.facts_are
              ∙ sym (answers_left T.sound T.closed n O.path (h.rule, cells_in s h.used) O.stood letters given)
              ∙ ap (λ (b : Begun). answers_after (rules_kept t) b letters given) (sym O.begun);
        }
