-- A page's letters walked from a cursor that calls left: one call more, which is lent enough, so its answers are the reference walker's and
-- the cursor is again one that calls left. The labels of a plan have at most eight digits. Assumes nothing.
use Prim.Native.Nat.{ℕ, ◌+◌, ◌*◌, ◌≤◌}
use native.Mathlib.Omega.{arith}
use mathlib.Core.Path.{◌≡◌, refl, sym, ap, ◌∙◌, subst}
use mathlib.Core.Bool.{true, false}
use mathlib.Core.List.{List, [], ◌∷◌, ◌++◌, map}
use Rattle.std.specs.Prelude.{Option, None, Ok}
use lib.ListN.{length, replicate, length-replicate}
use borrow.Author.Tests.{le-leb}
use Rattle.words.specs.Number.{word_count}
use Rattle.plan.specs.Check.{checked, checked_up_to, most_rules, rules_of}
use Rattle.plan.proofs.Sound.{accepted-plan, accepted-more}
use Rattle.forest.specs.Forest.{Forest, forest}
use Rattle.forest.specs.Reference.{Path, answers, path_after}
use Rattle.forest.specs.Outcome.{work_words, enough_work}
use Rattle.forest.specs.Walk.{answer_count, cursor_words, enough_lent, letters_of, first_other, walked_rule, answer_word}
use Rattle.forest.proofs.WorkWords.{few_words}
use Rattle.demand.specs.Calls.{Call, Left, lent, walk_of, cursor_after_calls}
use Rattle.demand.specs.Demand.{Above, turned_down, is_none, finger_path}
use Rattle.demand.proofs.Plans.{start-closed}
use Rattle.demand.proofs.FromAbove.{zeros-above, start-walked, start-above}
use Rattle.stroll_line.specs.Said.{answer_of, answers_from}
use Rattle.stroll_output.specs.Stroll.{most_strolled}
use Rattle.stroll_output.proofs.Answers.{AllLabelled, plan-answers, words-said, shown-length}
use Rattle.page_line.specs.Page.{page_lines, Shorts}
use Rattle.walk_parts.proofs.Calls.{cursor-last, last-answers, last-path}
use Rattle.page_output.specs.Walking.{most_work, most_cursor, page_answers, part_left, Walking}

all_short : (xs : List (Option ℕ)) → AllLabelled xs → Shorts xs
all_short [] h = tt
all_short (x ∷ xs) h = (shown-length x h.0, all_short xs h.1)

-- what a page's walk comes to
pub record Went (plan : List ℕ) (n start : ℕ) (letters : List ℕ) (path : Path) (cursor given : List ℕ) : Type 0 where
  pub said : answers_from (length letters) given 0 ≡ answers (forest (rules_of plan) start) (letters_of letters) path
  pub short : Shorts (answers_from (length letters) given 0)
  pub walking : Walking plan n start cursor (path_after (forest (rules_of plan) start) (letters_of letters) path)

module _ {plan : List ℕ} {n start : ℕ} {cursor : List ℕ} {path : Path} (W : Walking plan n start cursor path) (letters : List ℕ)
    (few : length letters ≤ page_lines) (every : first_other letters 0 ≡ None) where
  abbrev zeros : List ℕ
  zeros = replicate most_cursor 0

  abbrev call : Call
  call = record { work = replicate most_work 0; letters = letters; answers = replicate page_answers 0 }

  abbrev g : Forest ℕ
  g = forest (rules_of plan) start

  all : checked plan ≡ Ok (record { n = n; start = start })
  unfolding checked
  all = accepted-more most_strolled most_rules plan n start (omega arith) W.accepted

  -- a cursor of zeros is above the start rule's forest
  named : walked_rule start zeros ≡ start
  named = start-walked start zeros (zeros-above most_cursor)

  above : Above (rules_of plan) start zeros
  above = start-above (start-closed plan n start all) zeros (zeros-above most_cursor)

  rules : n ≤ most_strolled
  rules = (accepted-plan most_strolled plan n start W.accepted).greatest

  worked : enough_work n (replicate most_work 0) ≡ true
  unfolding enough_work
  worked =
      let words = few_words n rules in
      le-leb (work_words n) (word_count (replicate most_work 0)) (omega (arith, rules, length-replicate {0} {A = ℕ} most_work 0))

  enough : enough_lent (replicate most_work 0) zeros letters (replicate page_answers 0) n ≡ true
  unfolding enough_lent cursor_words
  enough =
      let room = le-leb (16 * (n + 1)) (word_count zeros) (omega (arith, rules, length-replicate {0} {A = ℕ} most_cursor 0)) in
      rw (worked, room, le-leb (length letters) (answer_count (replicate page_answers 0)) (omega arith))

  -- 8 and 9 turn it not down
  not-down : turned_down n zeros call ≡ false
  unfolding turned_down is_none
  not-down = rw (enough, every)

  abbrev left : Left
  left = part_left plan cursor letters (replicate page_answers 0)

  -- the call on the cursor that the calls before left
  left_is : left ≡ walk_of (lent plan (cursor_after_calls walk_of plan zeros W.calls) call)
  unfolding lent
  left_is = ap (λ (x : List ℕ). part_left plan x letters (replicate page_answers 0)) W.left

  abbrev labelled : AllLabelled (answers g (letters_of letters) path)
  labelled = plan-answers plan n start all (letters_of letters) path

  answers-are : answers_from (length letters) left.answers 0 ≡ answers g (letters_of letters) path
  unfolding answers_from
  answers-are =
      ap (λ (l : Left). answers_from (length letters) l.answers 0) left_is
      ∙ ap (map answer_of) (last-answers plan n start zeros start named W.calls call all above not-down)
      ∙ ap (λ (p : Path). map answer_of (map answer_word (answers g (letters_of letters) p))) (sym W.there)
      ∙ words-said (answers g (letters_of letters) path) labelled

  went_on : Walking plan n start left.cursor (path_after g (letters_of letters) path)
  went_on =
      record {
        accepted = W.accepted;
        calls = W.calls ++ (call ∷ []);
        left = ap (λ (l : Left). l.cursor) left_is ∙ sym (cursor-last plan call W.calls zeros);
        there = ap (path_after g (letters_of letters)) W.there ∙ sym (last-path plan n start zeros start named W.calls call all above not-down);
      }

  pub went : {cursor' given' : List ℕ} → cursor' ≡ left.cursor → given' ≡ left.answers → Went plan n start letters path cursor' given'
  went c g' =
      rw (c, g')
      (record {
        said = answers-are;
        short = subst Shorts (sym answers-are) (all_short (answers g (letters_of letters) path) labelled);
        walking = went_on;
      })

-- before the first letter
pub walking-begins : {plan : List ℕ} {n start : ℕ} → checked_up_to most_strolled plan ≡ Ok (record { n = n; start = start }) → Walking plan n start (replicate most_cursor 0) []
unfolding cursor_after_calls finger_path
walking-begins e = record { accepted = e; calls = []; left = refl; there = refl }

-- answers on an accepted plan are short
pub plan-short : {plan : List ℕ} {n start : ℕ} {cursor : List ℕ} {path : Path} → Walking plan n start cursor path → (letters : List ℕ)
    → Shorts (answers (forest (rules_of plan) start) (letters_of letters) path)
unfolding checked
plan-short {plan} {n} {start} {path = path} W letters =
    all_short (answers (forest (rules_of plan) start) (letters_of letters) path)
    (plan-answers plan n start (accepted-more most_strolled most_rules plan n start (omega arith) W.accepted) (letters_of letters) path)
