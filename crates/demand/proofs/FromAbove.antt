-- One call from above the start rule's forest with word 1 zero, where enough is lent: it is refused for its first byte that is no letter, and else its answers
-- are the finger's from the empty path on. Assumes nothing.
use Prim.Native.Nat.{ℕ, zero, suc, ◌+◌, ◌*◌, ◌≤◌}
use native.Mathlib.Omega.{arith}
use mathlib.Core.Path.{◌≡◌, refl, sym, ap, ◌∙◌}
use mathlib.Core.Bool.{true, false≢true}
use mathlib.Core.List.{List, [], map}
use Rattle.std.specs.Prelude.{None, Some, Ok, Err}
use lib.ListN.{length, get_or, replicate}
use borrow.Author.Tests.{le-leb}
use Rattle.words.specs.Number.{number, word_count}
use Rattle.rule.specs.declared.Rule.{Rule}
use Rattle.rule.specs.Sound.{Closed}
use Rattle.refusal.specs.declared.Refusal.{Refusal}
use Rattle.plan.specs.Check.{checked, rules_of}
use Rattle.forest.specs.Forest.{forest}
use Rattle.forest.specs.Place.{Cell, placed_forest}
use Rattle.forest.specs.Reference.{answers}
use Rattle.record.specs.Format.{word_length}
use Rattle.forest.specs.Outcome.{work_words, enough_work}
use Rattle.forest.specs.Walk.{answer_length, answer_count, cursor_words, enough_lent, letters_of, first_other, cell_at, used_cells, rule_word, walked_rule, Begun, letters_judged, begun, walked, answer_word}
use Rattle.forest.proofs.WalkedRule.{start-by-zero}
use Rattle.demand.specs.Calls.{Call, Left, lent, walk_of}
use Rattle.demand.specs.Demand.{Above, AboveStart, is_refused, answer_words}
use Rattle.demand.proofs.Walkable.{Stands}
use Rattle.demand.proofs.OneCall.{Came, begins, one-call}
use Rattle.demand.proofs.Lists.{above-stands}
use Rattle.demand.proofs.Plans.{start-closed}

-- a cursor of zeros
zero-at : (m i : ℕ) → get_or {A = ℕ} (replicate m 0) i 0 ≡ 0
zero-at zero i = refl
zero-at (suc m) zero = refl
zero-at (suc m) (suc i) = zero-at m i

number-zeros : (w m at : ℕ) → number w (replicate m 0) at ≡ 0
unfolding number
number-zeros zero m at = refl
number-zeros (suc w) m at = rw (zero-at m at, number-zeros w m (suc at))

pub zeros-above : (m : ℕ) → AboveStart (replicate m 0)
unfolding AboveStart cell_at
zeros-above m = simp number-zeros

-- word 1 zero: the start rule is walked
pub start-walked : (start : ℕ) (cursor : List ℕ) → AboveStart cursor → walked_rule start cursor ≡ start
unfolding AboveStart rule_word
start-walked start cursor a = start-by-zero start cursor (ap (λ (c : Cell). c.1) a)

pub start-above : {R : List Rule} {start : ℕ} → Closed R start → (cursor : List ℕ) → AboveStart cursor → Above R start cursor
unfolding AboveStart used_cells rule_word
start-above {R} {start} C cursor a =
    record {
      none_used = ap (λ (c : Cell). c.0) a;
      in_order = record {
        names = rw (start-walked start cursor a) C;
        zeros = a ∙ sym (λ i. ((a i).0, (a i).1, 0, 0));
      };
    }

module _ (s work cursor letters given : List ℕ) (n start : ℕ) (accepted : checked s ≡ Ok (record { n = n; start = start })) (above : AboveStart cursor)
    (worked : word_length * work_words n ≤ length work) (room : 32 * (n + 1) ≤ length cursor) (answerable : answer_length * length letters ≤ length given) where
  abbrev call : Call
  call = record { work = work; letters = letters; answers = given }

  abbrev left : Left
  left = walk_of (record { plan = s; work = work; cursor = cursor; letters = letters; answers = given })

  enough-work : enough_work n work ≡ true
  unfolding enough_work
  enough-work = le-leb (work_words n) (word_count work) (omega arith)

  enough : enough_lent work cursor letters given n ≡ true
  unfolding enough_lent cursor_words
  enough = rw (enough-work, le-leb (16 * (n + 1)) (word_count cursor) (omega arith), le-leb (length letters) (answer_count given) (omega arith))

  abbrev C : Closed (rules_of s) start
  C = start-closed s n start accepted

  stands : Stands (placed_forest (rules_of s) start) cursor cursor []
  stands = above-stands s n start cursor accepted start (start-walked start cursor above) C (start-above C cursor above)

  begins-above : begun s work cursor letters given ≡ letters_judged (first_other letters 0) (Begun.at n start [])
  begins-above = begins s n start cursor accepted start (start-walked start cursor above) C cursor [] stands call ∙ rw enough

  pub above-accepted : first_other letters 0 ≡ None → left.answer ≡ Ok tt
  unfolding walk_of walked letters_judged
  above-accepted e = rw (begins-above, e)

  pub above-refused : (i : ℕ) → first_other letters 0 ≡ Some i → left.answer ≡ Err (Refusal.Letter i)
  unfolding walk_of walked letters_judged
  above-refused i e = rw (begins-above, e)

  pub above-answers : first_other letters 0 ≡ None → answer_words (length letters) left.answers 0 ≡ map answer_word (answers (forest (rules_of s) start) (letters_of letters) [])
  unfolding lent is_refused
  above-answers e = go (one-call s n start cursor accepted start (start-walked start cursor above) C cursor [] stands call)
    where
      go : Came s n (forest (rules_of s) start) (placed_forest (rules_of s) start) cursor cursor [] call left
          → answer_words (length letters) left.answers 0 ≡ map answer_word (answers (forest (rules_of s) start) (letters_of letters) [])
      go (Came.turned d r k) = absurd (false≢true (sym (ap is_refused (above-accepted e)) ∙ r))
      go (Came.went d r t k w x) = w
