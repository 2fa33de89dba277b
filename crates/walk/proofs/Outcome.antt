-- Walk's answer and what it leaves, by the ways through its code: turned down by check, for what is lent, or past 8, after which the
-- work is cleared. Assumes nothing.
use Rattle.std.specs.Prelude.{Result, Ok, Err}
use Prim.Native.Nat.{ℕ, ◌+◌, ◌*◌, ◌/◌, ◌≤◌}
use native.Mathlib.Omega.{arith}
use mathlib.Core.Path.{◌≡◌, sym, ap, ◌∙◌}
use mathlib.Core.Bool.{true, false, and-eq-true_iff}
use mathlib.Core.List.{List}
use lib.ListN.{length}
use lib.Dec.{leb}
use borrow.Author.Tests.{leb-true}
use Rattle.words.specs.Number.{word_count}
use Rattle.refusal.specs.declared.Refusal.{Refusal}
use Rattle.record.specs.Record.{word_length}
use Rattle.plan.specs.Check.{checked, rules_of}
use Rattle.forest.specs.Outcome.{work_words, enough_work, cleared, work_after}
use Rattle.forest.specs.Walk.{answer_length, cursor_words, enough_lent, first_other, Begun, place_judged, letters_judged, begun_from, begun, walked, cursor_after, answers_after, walked_work}
use Rattle.demand.specs.Calls.{walk_of, lends, leaves}
use Rattle.work_rows.specs.Rows.{work_length, Within}
use Rattle.work_rows.proofs.Work.{enough-room, enough-words, work-cleared}
use Rattle.walk.specs.Calls.{Lendable}
use Rattle.walk_place.specs.Travel.{Walks}

module _ (s work cursor letters given : List ℕ) where
  pub refused : (why : Refusal) → checked s ≡ Err why → leaves (Err why) work cursor given ≡ walk_of (lends s work cursor letters given)
  unfolding walk_of begun begun_from walked cursor_after answers_after walked_work work_after
  refused why q = rw q

  module _ (n start : ℕ) (q : checked s ≡ Ok (record { n = n; start = start })) where
    pub lent : enough_lent work cursor letters given n ≡ false → leaves (Err Refusal.Lent) work cursor given ≡ walk_of (lends s work cursor letters given)
    unfolding walk_of begun begun_from walked cursor_after answers_after walked_work work_after
    lent e = rw (q, e)

    -- what 8 gives
    pub lendable : enough_lent work cursor letters given n ≡ true → Lendable s n start work cursor letters given
    unfolding enough_lent cursor_words
    lendable e =
        let worked = ((and-eq-true_iff (enough_work n work) _).0 e).0 in
        let rest = ((and-eq-true_iff (enough_work n work) _).0 e).1 in
        let far : 16 * (n + 1) ≤ length cursor / 2 = leb-true _ _ ((and-eq-true_iff (leb (cursor_words n) (word_count cursor)) _).0 rest).0 in
        let all : length letters ≤ length given / answer_length = leb-true _ _ ((and-eq-true_iff (leb (cursor_words n) (word_count cursor)) _).0 rest).1 in
        record { accepted = q; worked = enough-room n work worked; words = enough-words n work worked; room = omega arith; answerable = omega arith }

    begins : enough_lent work cursor letters given n ≡ true
        → begun s work cursor letters given ≡ letters_judged (first_other letters 0) (place_judged (rules_of s) n start cursor)
    unfolding begun begun_from
    begins e = rw (q, e)

    left-work : enough_lent work cursor letters given n ≡ true → {t : List ℕ} → Within 0 (work_length * n) work t → cleared (word_length * work_words n) t ≡ walked_work s work cursor letters given
    unfolding walked_work
    left-work e {t} w = work-cleared (enough_lent work cursor letters given) (checked s) work n start q e t w

    -- past 8
    pub finished : {x : Result Unit Refusal} {t u cursor' given' : List ℕ} → enough_lent work cursor letters given n ≡ true
        → Walks (rules_of s) (letters_judged (first_other letters 0) (place_judged (rules_of s) n start cursor)) letters cursor cursor' given given' x
        → Within 0 (work_length * n) work t → u ≡ cleared (word_length * work_words n) t
        → leaves x u cursor' given' ≡ walk_of (lends s work cursor letters given)
    unfolding walk_of
    finished {x} {t} {u} {cursor'} {given'} e w f p =
        let b = sym (begins e) in
        let answer : x ≡ walked (begun s work cursor letters given) = w.answer ∙ ap walked b in
        let worked : u ≡ walked_work s work cursor letters given = p ∙ left-work e f in
        let place : cursor' ≡ cursor_after (rules_of s) (begun s work cursor letters given) letters cursor = w.cursor_left ∙ ap (λ (y : Begun). cursor_after (rules_of s) y letters cursor) b in
        let words : given' ≡ answers_after (rules_of s) (begun s work cursor letters given) letters given = w.answers_left ∙ ap (λ (y : Begun). answers_after (rules_of s) y letters given) b in
        λ i. record { answer = answer i; work = worked i; cursor = place i; answers = words i }
