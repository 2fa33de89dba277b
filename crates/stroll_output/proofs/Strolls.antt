-- What stroll prints on an accepted plan is what its one walk from above comes to. The walk has enough of everything for 1,024
-- rules and 4,096 letters, so it is refused only for a byte that is no letter, and else its answers are the reference walker's.
-- Assumes nothing.
use Prim.Native.Nat.{ℕ, ◌+◌, ◌*◌, ◌<◌, ◌≤◌}
use native.Mathlib.Omega.{arith}
use mathlib.Core.Path.{◌≡◌, sym, ap, ◌∙◌}
use mathlib.Core.List.{List, [], map}
use Rattle.std.specs.Prelude.{None, Some, Result, Ok, Err}
use lib.ListN.{length, replicate, length-replicate}
use borrow.Author.Tests.{le-leb, lt-leb}
use Rattle.refusal.specs.declared.Refusal.{Refusal}
use Rattle.record.specs.Format.{word_length}
use Rattle.plan.specs.Check.{checked, checked_up_to, most_rules, rules_of}
use Rattle.plan.proofs.Sound.{Plan, accepted-plan, accepted-more}
use Rattle.forest.specs.Outcome.{work_words}
use Rattle.forest.specs.Forest.{forest}
use Rattle.forest.specs.Reference.{answers}
use Rattle.forest.specs.Walk.{answer_length, letters_of, first_other}
use Rattle.forest.proofs.Cases.{by-option}
use Rattle.forest.proofs.WorkWords.{few_words}
use Rattle.demand.specs.Calls.{Left, walk_of, lends, leaves}
use Rattle.demand.specs.Demand.{AboveStart, answer_words}
use Rattle.demand.proofs.FromAbove.{zeros-above, above-accepted, above-refused, above-answers}
use Rattle.stroll_line.specs.Lines.{line_length, lines, refused_line}
use Rattle.stroll_output.specs.Stroll.{most_plan, most_letters, most_strolled, walk_printed, check_printed, stroll_output}
use Rattle.stroll_line.specs.Said.{answer_of, answers_from}
use Rattle.stroll_output.specs.Printed.{Accepted, Strollable, Strolled}
use Rattle.stroll_line.proofs.Shown.{all_lines}
use Rattle.stroll_output.proofs.Answers.{plan-answers, words-said, lines-length}

module _ (plan letters : List ℕ) where
  -- the plan is too long
  pub plan-too-long : most_plan < length plan → stroll_output plan letters ≡ refused_line Refusal.Lent
  unfolding stroll_output
  plan-too-long h = rw (lt-leb (length plan) most_plan h)

  -- or is checked
  pub plan-checked : length plan ≤ most_plan → stroll_output plan letters ≡ check_printed plan letters (checked_up_to most_strolled plan)
  unfolding stroll_output
  plan-checked h = rw (le-leb (length plan) most_plan h)

  -- and refused
  pub plan-refused : length plan ≤ most_plan → (why : Refusal) → checked_up_to most_strolled plan ≡ Err why → stroll_output plan letters ≡ refused_line why
  unfolding check_printed
  plan-refused h why e = plan-checked h ∙ rw e

-- too many letters
pub too_many : (plan letters : List ℕ) → Accepted plan → most_letters < length letters → check_printed plan letters (checked_up_to most_strolled plan) ≡ refused_line Refusal.Lent
unfolding check_printed
too_many plan letters A h = rw (A.accepted, lt-leb (length letters) most_letters h)

-- the walk is lent enough
pub record Lends (letters work cursor given : List ℕ) : Type 0 where
  pub work_holds : 65536 ≡ length work
  pub cursor_holds : 32800 ≡ length cursor
  pub above : AboveStart cursor
  pub answerable : answer_length * length letters ≤ length given

pub zeros-lent : {letters given : List ℕ} → answer_length * length letters ≤ length given → Lends letters (replicate 65536 0) (replicate 32800 0) given
zeros-lent h =
    record {
      work_holds = sym (length-replicate {0} {A = ℕ} 65536 0);
      cursor_holds = sym (length-replicate {0} {A = ℕ} 32800 0);
      above = zeros-above 32800;
      answerable = h;
    }

module _ {plan letters work cursor given : List ℕ} (S : Strollable plan letters) (L : Lends letters work cursor given)
    {x : Result Unit Refusal} {work' cursor' given' : List ℕ} (W : leaves x work' cursor' given' ≡ walk_of (lends plan work cursor letters given)) where
  abbrev A : Accepted plan
  A = S.accepted

  printed : check_printed plan letters (checked_up_to most_strolled plan) ≡ walk_printed (forest (rules_of plan) A.start) letters (first_other letters 0)
  unfolding check_printed
  printed = rw (A.accepted, le-leb (length letters) most_letters S.few)

  -- within stroll's limit, so within check's
  within : Plan most_strolled plan A.n A.start
  within = accepted-plan most_strolled plan A.n A.start A.accepted

  all : checked plan ≡ Ok (record { n = A.n; start = A.start })
  unfolding checked
  all = accepted-more most_strolled most_rules plan A.n A.start (omega arith) A.accepted

  worked : word_length * work_words A.n ≤ length work
  worked = let h = within.greatest in let e = few_words A.n h in omega arith

  room : 32 * (A.n + 1) ≤ length cursor
  room = let h = within.greatest in omega arith

  accepted : first_other letters 0 ≡ None → x ≡ Ok tt
  accepted e = ap (λ (l : Left). l.answer) W ∙ above-accepted plan work cursor letters given A.n A.start all L.above worked room L.answerable e

  refused : (i : ℕ) → first_other letters 0 ≡ Some i → x ≡ Err (Refusal.Letter i)
  refused i e = ap (λ (l : Left). l.answer) W ∙ above-refused plan work cursor letters given A.n A.start all L.above worked room L.answerable i e

  -- accepted, every byte is a letter, and the words are the reference walker's answers
  every_letter : x ≡ Ok tt → first_other letters 0 ≡ None
  every_letter q = by-option (first_other letters 0) (λ e. e) (λ i e. let r = refused i e in cc)

  answered : x ≡ Ok tt → answers_from (length letters) given' 0 ≡ answers (forest (rules_of plan) A.start) (letters_of letters) []
  unfolding answers_from
  answered q =
      ap (map answer_of)
      (ap (λ (l : Left). answer_words (length letters) l.answers 0) W
      ∙ above-answers plan work cursor letters given A.n A.start all L.above worked room L.answerable (every_letter q))
      ∙ words-said _ (plan-answers plan A.n A.start all (letters_of letters) [])

  walk-printed : x ≡ Ok tt → all_lines letters given' ≡ check_printed plan letters (checked_up_to most_strolled plan)
  unfolding walk_printed
  walk-printed q = ap (lines letters) (answered q) ∙ sym (printed ∙ rw (every_letter q))

  walk-short : x ≡ Ok tt → length (all_lines letters given') ≤ line_length * length letters
  walk-short q = rw (answered q) (lines-length letters _ (plan-answers plan A.n A.start all (letters_of letters) []))

  walk_refused : (why : Refusal) → x ≡ Err why → refused_line why ≡ check_printed plan letters (checked_up_to most_strolled plan)
  unfolding walk_printed
  walk_refused why q =
      by-option (first_other letters 0)
      (λ e. let r = accepted e in cc)
      (λ i e. let r = refused i e in let same : why ≡ Refusal.Letter i = cc in ap refused_line same ∙ sym (printed ∙ rw e))

  pub strolled : Strolled plan letters x given'
  strolled = record { said = walk-printed; short = walk-short; refused = walk_refused }
