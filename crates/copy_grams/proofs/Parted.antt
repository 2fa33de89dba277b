-- What a client's copy weighs and what was taken out weigh together what the plan weighs (document 02, Note 8): the copy's forest is the
-- visible one, and a forest's weight is that of what is seen of it and that of what is taken out (`weigh-parted`). Where grams gives a sum it
-- is the forest's, and what the plan's grams fit the copy's fit. Assumes nothing.
use Rattle.std.specs.Prelude.{Result, Ok, Err}
use Prim.Native.Nat.{ℕ, ◌+◌, ◌^◌, ◌<◌}
use native.Mathlib.Omega.{arith}
use mathlib.Core.Bool.{Bool, true, false, cond}
use mathlib.Core.List.{List}
use mathlib.Core.Path.{◌≡◌, refl, sym, ap, ◌∙◌}
use lib.ListN.{length, take}
use lib.Dec.{ltb}
use borrow.Author.Tests.{lt-ltb, ltb-true}
use Rattle.refusal.specs.declared.Refusal.{Refusal}
use Rattle.rule.specs.declared.Rule.{Rule}
use Rattle.plan.specs.Check.{checked, rules_of}
use Rattle.forest.specs.Forest.{forest, weigh}
use Rattle.forest.specs.Outcome.{enough_work, work_judged}
use Rattle.label_rows.specs.declared.LabelRow.{LabelRow}
use Rattle.label_rows.specs.Coverage.{coverage}
use Rattle.label_rows.specs.Class.{grams_of}
use Rattle.list_judge.specs.Listed.{list_judged}
use Rattle.copy_variants.specs.Visible.{visible, taken_out, seen_by}
use Rattle.copy_variants.proofs.TakenOut.{weigh-parted}
use Rattle.copy_plan.specs.Bytes.{copy_bytes}
use Rattle.copy.specs.Copy.{copy_judged, Copies}
use Rattle.copy.specs.Made.{Makeable}
use Rattle.copy.proofs.Judged.{judged-makeable}
use Rattle.copy.proofs.Bytes.{copy-bytes}
use Rattle.grams.specs.Grams.{sum_judged, weighed_from, weighed}

-- a sum that is given is the sum
sum-given : (g y : ℕ) → sum_judged g ≡ Ok y → (g ≡ y) × (g < 2 ^ 64)
unfolding sum_judged
sum-given g y = by-test (ltb g (2 ^ 64)) refl where
  by-test : (b : Bool) → ltb g (2 ^ 64) ≡ b → cond {A = Result ℕ Refusal} b (Ok g) (Err Refusal.Room) ≡ Ok y → (g ≡ y) × (g < 2 ^ 64)
  by-test true t e = (cc, ltb-true g (2 ^ 64) t)
  by-test false t e = let z : ◌≡◌ {A = ℕ} 0 1 = cc in absurd (omega arith)

-- and one that fits is given
sum_fits : (g : ℕ) → g < 2 ^ 64 → sum_judged g ≡ Ok g
unfolding sum_judged
sum_fits g fits = rw (lt-ltb g (2 ^ 64) fits)

module _ (s : List ℕ) (rows : List LabelRow) (n start : ℕ) (e : checked s ≡ Ok (record { n = n; start = start })) (sound : coverage rows ≡ Ok tt) (work : List ℕ) where
  -- the answer for an accepted plan and a sound list, with and without enough work
  weighed-enough : enough_work n work ≡ true → weighed s rows work ≡ sum_judged (weigh (grams_of rows) (forest (rules_of s) start))
  unfolding weighed weighed_from work_judged list_judged
  weighed-enough enough = rw (e, sound, enough)

  weighed-short : enough_work n work ≡ false → weighed s rows work ≡ Err Refusal.Lent
  unfolding weighed weighed_from work_judged list_judged
  weighed-short short = rw (e, sound, short)

  -- grams that are given are the forest's
  given-grams : (y : ℕ) → weighed s rows work ≡ Ok y → (weigh (grams_of rows) (forest (rules_of s) start) ≡ y) × (weigh (grams_of rows) (forest (rules_of s) start) < 2 ^ 64)
  given-grams y f = by-work (enough_work n work) refl where
    by-work : (b : Bool) → enough_work n work ≡ b → (weigh (grams_of rows) (forest (rules_of s) start) ≡ y) × (weigh (grams_of rows) (forest (rules_of s) start) < 2 ^ 64)
    by-work true t = sum-given (weigh (grams_of rows) (forest (rules_of s) start)) y (sym (weighed-enough t) ∙ f)
    by-work false t = let g : Err Refusal.Lent ≡ Ok y = sym (weighed-short t) ∙ f in let z : ◌≡◌ {A = ℕ} 0 1 = cc in absurd (omega arith)

-- "The grams of a client's copy plus the grams of the nodes taken out must equal the plan's, with the second sum taken over those nodes and
-- not as a remainder": of what copy wrote and of what grams answers, whatever work each is lent
module _ {s : List ℕ} {rows : List LabelRow} {c n start l y : ℕ} {work work' out out' : List ℕ} {x : Result ℕ Refusal}
    (J : copy_judged s rows c work out ≡ Ok (record { n = n; start = start })) (X : Copies s rows c n start work work' out out' x) (e : x ≡ Ok l)
    (lent : List ℕ) (f : weighed s rows lent ≡ Ok y) where
  abbrev seen : ℕ
  seen = weigh (grams_of rows) (visible (seen_by rows c) (forest (rules_of s) start))

  abbrev out-of-it : ℕ
  out-of-it = weigh (grams_of rows) (taken_out (seen_by rows c) (forest (rules_of s) start))

  makeable : Makeable s rows n start work out
  makeable = judged-makeable s rows c work out n start J

  plan-grams : (weigh (grams_of rows) (forest (rules_of s) start) ≡ y) × (weigh (grams_of rows) (forest (rules_of s) start) < 2 ^ 64)
  plan-grams = given-grams s rows n start makeable.accepted makeable.sound lent y f

  parted : seen + out-of-it ≡ y
  parted = weigh-parted (grams_of rows) (seen_by rows c) (forest (rules_of s) start) ∙ plan-grams.0

  copy-forest : weigh (grams_of rows) (forest (rules_of (copy_bytes X.rules X.top)) X.top) ≡ seen
  copy-forest = ap (weigh (grams_of rows)) (ap (λ (R : List Rule). forest R X.top) X.reads ∙ X.copied.gives)

  pub grams-parted : (lent' : List ℕ) {z : ℕ} → weighed (take l out') rows lent' ≡ Ok z → z + out-of-it ≡ y
  grams-parted lent' {z} g =
      let h : weighed (copy_bytes X.rules X.top) rows lent' ≡ Ok z = rw (copy-bytes X e) at g in
      let k = (given-grams (copy_bytes X.rules X.top) rows (length X.rules) X.top X.accepts makeable.sound lent' z h).0 in
      let same : seen ≡ z = sym copy-forest ∙ k in
      omega (arith, parted)

  -- where the plan's grams aren't refused with 11, the copy's aren't: they are those of what is seen
  pub grams-fit : (lent' : List ℕ) → enough_work (length X.rules) lent' ≡ true → weighed (take l out') rows lent' ≡ Ok seen
  grams-fit lent' enough =
      let small : seen < 2 ^ 64 = omega (arith, parted, plan-grams) in
      rw (copy-bytes X e)
      (weighed-enough (copy_bytes X.rules X.top) rows (length X.rules) X.top X.accepts makeable.sound lent' enough ∙ ap sum_judged copy-forest ∙ sum_fits seen small)
