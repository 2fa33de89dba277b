-- What is judged, test by test: where nothing is turned down each test was passed, and the outcome is by what is judged. Assumes nothing.
use Rattle.std.specs.Prelude.{Result, Ok, Err}
use Prim.Native.Nat.{ℕ}
use native.Mathlib.Omega.{arith}
use mathlib.Core.Bool.{Bool, true, false, cond, ◌&&◌, and-eq-true_iff}
use mathlib.Core.List.{List}
use mathlib.Core.Path.{◌≡◌, refl, ◌∙◌}
use lib.ListN.{length}
use lib.Dec.{leb}
use borrow.Author.Tests.{leb-true}
use Rattle.refusal.specs.declared.Refusal.{Refusal}
use Rattle.plan.specs.declared.Checked.{Checked}
use Rattle.plan.specs.Check.{checked}
use Rattle.forest.specs.Outcome.{enough_work}
use Rattle.label_rows.specs.declared.LabelRow.{LabelRow}
use Rattle.label_rows.specs.Coverage.{coverage, largest_class}
use Rattle.plan.proofs.Parts.{same-parts}
use Rattle.list_judge.specs.Listed.{list_judged}
use Rattle.list_judge.proofs.Passed.{list-passed}
use Rattle.copy_variants.specs.Variants.{most_copied}
use Rattle.copy_plan.specs.Bytes.{copy_room}
use Rattle.copy.specs.Copy.{class_judged, count_judged, lent_judged, copy_judged, Copies, CopyOutcome}
use Rattle.copy.specs.Made.{Makeable}

-- a test that was passed
passed : (b : Bool) (c : Checked) (n start : ℕ) (why : Refusal) → cond {A = Result Checked Refusal} b (Ok c) (Err why) ≡ Ok (record { n = n; start = start })
    → (b ≡ true) × (◌≡◌ {A = Result Checked Refusal} (Ok c) (Ok (record { n = n; start = start })))
passed true c n start why e = (refl, e)
passed false c n start why e = let z : ◌≡◌ {A = ℕ} 0 1 = cc in absurd (omega arith)

module _ (n start : ℕ) where
  class-passed : (class : ℕ) (c : Result Checked Refusal) → class_judged class c ≡ Ok (record { n = n; start = start }) → c ≡ Ok (record { n = n; start = start })
  unfolding class_judged
  class-passed class (Ok x) e = (passed (leb class largest_class) x n start (Refusal.Row 0) e).1
  class-passed class (Err why) e = e

  count-passed : (c : Result Checked Refusal) → count_judged c ≡ Ok (record { n = n; start = start }) → (leb n most_copied ≡ true) × (c ≡ Ok (record { n = n; start = start }))
  unfolding count_judged
  count-passed (Ok x) e =
      let (t, same) = passed (leb x.n most_copied) x n start Refusal.TooMany e in
      let f = (same-parts same).0 in
      (rw f at t, same)
  count-passed (Err why) e = let z : ◌≡◌ {A = ℕ} 0 1 = cc in absurd (omega arith)

  lent-passed : (work out : List ℕ) (c : Result Checked Refusal) → lent_judged work out c ≡ Ok (record { n = n; start = start })
      → ((enough_work n work && leb (copy_room n) (length out)) ≡ true) × (c ≡ Ok (record { n = n; start = start }))
  unfolding lent_judged
  lent-passed work out (Ok x) e =
      let (t, same) = passed (enough_work x.n work && leb (copy_room x.n) (length out)) x n start Refusal.Lent e in
      let f = (same-parts same).0 in
      (rw f at t, same)
  lent-passed work out (Err why) e = let z : ◌≡◌ {A = ℕ} 0 1 = cc in absurd (omega arith)

module _ (s : List ℕ) (rows : List LabelRow) (class : ℕ) (work out : List ℕ) where
  -- what is judged one after the other
  pub judged-all : {x y z : Result Checked Refusal} → x ≡ class_judged class (checked s) → y ≡ list_judged (coverage rows) x → z ≡ lent_judged work out (count_judged y)
      → z ≡ copy_judged s rows class work out
  unfolding copy_judged
  judged-all e f g = g ∙ rw (f, e)

  -- where nothing is turned down
  pub judged-makeable : (n start : ℕ) → copy_judged s rows class work out ≡ Ok (record { n = n; start = start }) → Makeable s rows n start work out
  unfolding copy_judged
  judged-makeable n start e =
      let (lent, a) = lent-passed n start work out (count_judged (list_judged (coverage rows) (class_judged class (checked s)))) e in
      let (few, b) = count-passed n start (list_judged (coverage rows) (class_judged class (checked s))) a in
      let (whole, c) = list-passed (coverage rows) (class_judged class (checked s)) b in
      let (enough, space) = (and-eq-true_iff (enough_work n work) (leb (copy_room n) (length out))).0 lent in
      record {
        accepted = class-passed n start class (checked s) c;
        sound = whole;
        few = leb-true n most_copied few;
        enough = enough;
        space = leb-true (copy_room n) (length out) space;
      }

  pub outcome-made : {n start : ℕ} {work' out' : List ℕ} {x : Result ℕ Refusal} → copy_judged s rows class work out ≡ Ok (record { n = n; start = start })
      → Copies s rows class n start work work' out out' x → CopyOutcome (copy_judged s rows class work out) s rows class work work' out out' x
  unfolding CopyOutcome
  outcome-made e c = rw e c

  pub outcome-refused : {why : Refusal} → copy_judged s rows class work out ≡ Err why
      → CopyOutcome (copy_judged s rows class work out) s rows class work work out out (Err why)
  unfolding CopyOutcome
  outcome-refused e = rw e (record { answer = refl; work_stays = refl; out_stays = refl })
