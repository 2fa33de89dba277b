-- What is judged, in the order of the tests: a plan and a log that are not refused have passed all of them. Assumes nothing.
use Prim.Native.Nat.{ℕ, ◌<◌, ◌≤◌}
use native.Mathlib.Omega.{arith}
use mathlib.Core.Path.{◌≡◌, refl, sym, ap, ◌∙◌}
use mathlib.Core.Bool.{Bool, true, false, cond}
use mathlib.Core.List.{List, []}
use Rattle.std.specs.Prelude.{Option, None, Some, Result, Ok, Err}
use lib.ListN.{length}
use lib.Dec.{leb}
use borrow.Author.Tests.{le-leb, lt-leb, leb-true}
use Rattle.refusal.specs.declared.Refusal.{Refusal}
use Rattle.plan.specs.declared.Checked.{Checked}
use Rattle.plan.specs.Check.{checked_up_to, rules_of}
use Rattle.plan.proofs.Sound.{accepted-plan}
use Rattle.forest.specs.Forest.{forest}
use Rattle.forest.specs.Reference.{answers}
use Rattle.forest.specs.Walk.{letters_of, first_other}
use Rattle.stroll_line.specs.Lines.{refused_line}
use Rattle.stroll_output.specs.Stroll.{most_plan, most_strolled}
use Rattle.page_output.specs.Pages.{most_logged, other_judged, log_judged, check_judged, pages_judged, pages_from, judged_pages, pages_output}
use Rattle.page_output.specs.Walking.{Printable}

-- ---- the tests in turn
module _ (log : List ℕ) where
  pub log-long : most_logged < length log → Err Refusal.Lent ≡ log_judged log
  unfolding log_judged
  log-long h = sym (ap (λ (b : Bool). cond b (other_judged (first_other log 0)) (Err Refusal.Lent)) (lt-leb (length log) most_logged h))

  pub log-read : length log ≤ most_logged → {x : Option ℕ} → x ≡ first_other log 0 → other_judged x ≡ log_judged log
  unfolding log_judged
  log-read h e = rw (le-leb (length log) most_logged h) (ap other_judged e)

module _ (plan log : List ℕ) where
  pub plan-long : most_plan < length plan → Err Refusal.Lent ≡ pages_judged plan log
  unfolding pages_judged
  plan-long h = rw (lt-leb (length plan) most_plan h)

  pub plan-read : length plan ≤ most_plan → {x : Result Checked Refusal} → x ≡ checked_up_to most_strolled plan → check_judged log x ≡ pages_judged plan log
  unfolding pages_judged
  plan-read h e = rw (le-leb (length plan) most_plan h) (ap (check_judged log) e)

-- ---- what passed them
passed : (b : Bool) {x : Result Unit Refusal} → cond b x (Err Refusal.Lent) ≡ Ok tt → (b ≡ true) × (x ≡ Ok tt)
passed true e = (refl, e)
passed false e = let z : ◌≡◌ {A = ℕ} 0 1 = cc in absurd (omega arith)

no_other : (x : Option ℕ) → other_judged x ≡ Ok tt → x ≡ None
unfolding other_judged
no_other None e = refl
no_other (Some i) e = let z : ◌≡◌ {A = ℕ} 0 1 = cc in absurd (omega arith)

module _ (plan log : List ℕ) where
  printed : {x : Result Unit Refusal} → x ≡ pages_judged plan log → pages_output plan log ≡ judged_pages plan log x
  unfolding pages_output
  printed e = ap (judged_pages plan log) (sym e)

  by-check : (x : Result Checked Refusal) → checked_up_to most_strolled plan ≡ x → check_judged log x ≡ Ok tt
      → (Ok tt) ≡ pages_judged plan log → Printable plan log
  unfolding check_judged log_judged judged_pages
  by-check (Err r) e j w = let z : ◌≡◌ {A = ℕ} 0 1 = cc in absurd (omega arith)
  by-check (Ok x) e j w =
      let few = passed (leb (length log) most_logged) j in
      let begins = (accepted-plan most_strolled plan x.n x.start e).begins in
      record {
        n = x.n;
        start = x.start;
        accepted = e;
        few = leb-true (length log) most_logged few.0;
        every_letter = no_other (first_other log 0) few.1;
        prints = printed w ∙ ap (λ (r : ℕ). pages_from 1 log (answers (forest (rules_of plan) r) (letters_of log) [])) (sym begins);
      }

  -- a log that is not refused
  pub printable : (Ok tt) ≡ pages_judged plan log → Printable plan log
  unfolding pages_judged
  printable w = by-check (checked_up_to most_strolled plan) refl (passed (leb (length plan) most_plan) (sym w)).1 w

  -- "a refusal is the one line that stroll prints"
  pub refused-prints : {r : Refusal} → Err r ≡ pages_judged plan log → pages_output plan log ≡ refused_line r
  unfolding judged_pages
  refused-prints w = printed w
