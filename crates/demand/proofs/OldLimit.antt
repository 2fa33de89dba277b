-- "A place stored under the old limit is accepted as before in the same plan, and leads to the same entry" (document 02, Note 3). The walk
-- with a limit as a parameter and 32 words of work a rule, as it was; wherever a plan is accepted up to 1,024 rules, it answers and leaves
-- what the walk does. Assumes nothing.
use Rattle.std.specs.Prelude.{Result, Ok, Err}
use Prim.Native.Nat.{ℕ, ◌*◌}
use native.Mathlib.Omega.{arith}
use mathlib.Core.Bool.{Bool, cond, ◌&&◌}
use mathlib.Core.List.{List}
use mathlib.Core.Path.{◌≡◌, sym, ap, ap₂, ◌∙◌}
use lib.Dec.{leb}
use Rattle.words.specs.Number.{word_count}
use Rattle.refusal.specs.declared.Refusal.{Refusal}
use Rattle.record.specs.Format.{word_length}
use Rattle.plan.specs.declared.Checked.{Checked}
use Rattle.plan.specs.Check.{checked, checked_up_to, most_rules, rules_of}
use Rattle.plan.proofs.Sound.{accepted-plan, accepted-more}
use Rattle.forest.specs.Outcome.{few_rules, rule_work, work_words, enough_work, cleared, work_after}
use Rattle.forest.specs.Walk.{Begun, enough_cursor, enough_answers, enough_lent, first_other, place_judged, letters_judged, begun_from, begun, walked, cursor_after, answers_after, walked_work}
use Rattle.forest.proofs.WorkWords.{few_words}
use Rattle.demand.specs.Calls.{Lent, Left, walk_of}

enough_before : Lent → ℕ → Bool
enough_before l n = leb (rule_work * n) (word_count l.work) && (enough_cursor n l.cursor && enough_answers l.letters l.answers)

begun_before : Lent → Result Checked Refusal → Begun
begun_before l (Ok x) =
    cond (enough_before l x.n) (letters_judged (first_other l.letters 0) (place_judged (rules_of l.plan) x.n x.start l.cursor)) (Begun.refused Refusal.Lent)
begun_before l (Err r) = Begun.refused r

work_before : Lent → Result Checked Refusal → List ℕ
work_before l (Ok x) = cond (enough_before l x.n) (cleared (word_length * (rule_work * x.n)) l.work) l.work
work_before l (Err r) = l.work

pub walk_up_to : ℕ → Lent → Left
walk_up_to most l =
    let b = begun_before l (checked_up_to most l.plan) in
    record {
      answer = walked b;
      work = work_before l (checked_up_to most l.plan);
      cursor = cursor_after (rules_of l.plan) b l.letters l.cursor;
      answers = answers_after (rules_of l.plan) b l.letters l.answers;
    }

module _ (l : Lent) (n start : ℕ) (e : checked_up_to few_rules l.plan ≡ Ok (record { n = n; start = start })) where
  few : work_words n ≡ rule_work * n
  few = few_words n (accepted-plan few_rules l.plan n start e).greatest

  still : checked l.plan ≡ Ok (record { n = n; start = start })
  unfolding checked
  still = accepted-more few_rules most_rules l.plan n start (omega arith) e

  enough-same : enough_before l n ≡ enough_lent l.work l.cursor l.letters l.answers n
  unfolding enough_before enough_lent enough_work
  enough-same = ap (λ (k : ℕ). leb k (word_count l.work) && (enough_cursor n l.cursor && enough_answers l.letters l.answers)) (sym few)

  begun-same : begun_before l (checked_up_to few_rules l.plan) ≡ begun l.plan l.work l.cursor l.letters l.answers
  unfolding begun_before begun begun_from
  begun-same =
      ap (begun_before l) e
      ∙ ap (λ (b : Bool). cond b (letters_judged (first_other l.letters 0) (place_judged (rules_of l.plan) n start l.cursor)) (Begun.refused Refusal.Lent)) enough-same
      ∙ sym (ap (begun_from l.plan l.work l.cursor l.letters l.answers) still)

  work-same : work_before l (checked_up_to few_rules l.plan) ≡ walked_work l.plan l.work l.cursor l.letters l.answers
  unfolding work_before walked_work work_after
  work-same =
      ap (work_before l) e
      ∙ ap₂ (λ (b : Bool) (k : ℕ). cond b (cleared (word_length * k) l.work) l.work) enough-same (sym few)
      ∙ sym (ap (λ (c : Result Checked Refusal). work_after (enough_lent l.work l.cursor l.letters l.answers) c l.work) still)

  pub old-limit : walk_up_to few_rules l ≡ walk_of l
  unfolding walk_up_to walk_of
  old-limit = λ i.
      record {
        answer = walked (begun-same i);
        work = work-same i;
        cursor = cursor_after (rules_of l.plan) (begun-same i) l.letters l.cursor;
        answers = answers_after (rules_of l.plan) (begun-same i) l.letters l.answers;
      }
