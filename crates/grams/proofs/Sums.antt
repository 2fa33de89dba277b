-- A sum that fits is judged as it stands, and one that doesn't is 2^64 or more; and the answer over the rows, which a sum and a clearing of the
-- work give. Assumes nothing.
use Rattle.plan.proofs.Parts.{same-parts}
use Rattle.std.specs.Prelude.{Result, Ok, Err, ok_or, ltb}
use Rattle.std.proofs.Common.{ltb-true, ltb-false}
use Prim.Native.Nat.{ℕ, ◌*◌}
use native.Mathlib.Omega.{arith}
use mathlib.Core.List.{List}
use mathlib.Core.Path.{◌≡◌, refl, sym, ◌∙◌}
use Rattle.forest.proofs.Cases.{by_bool}
use Rattle.refusal.specs.declared.Refusal.{Refusal}
use Rattle.record.specs.Format.{word_length}
use Rattle.plan.specs.declared.Checked.{Checked}
use Rattle.forest.specs.Outcome.{work_words, cleared}
use Rattle.work_rows.specs.Rows.{Within}
use Rattle.work_rows.proofs.Rows.{within_wider}
use Rattle.work_rows.proofs.Work.{work-least, cleared-same, beyond-work}
use Rattle.count_capped.specs.Count.{count_limit, capped, fitting}
use Rattle.count_weights.specs.Weights.{Totalled}
use Rattle.grams.specs.Grams.{sum_judged}
use Rattle.grams.specs.Steps.{SumGiven, Answered}

pub fits-judged : (c g : ℕ) → c ≡ capped g → ok_or (fitting c) Refusal.Room ≡ sum_judged g
unfolding sum_judged
fits-judged c g e =
    by_bool (ltb g count_limit)
    (λ u. let same : c ≡ g = omega (arith, e, ltb-true g count_limit u) in rw (same, u) refl)
    (λ u. let over : c ≡ count_limit = omega (arith, e, ltb-false g count_limit u) in rw (over, u) refl)

-- the answer where rules are loaded
pub sum-answered : {n start : ℕ} {x : Result Checked Refusal} {y : Result ℕ Refusal} {c : ℕ} {t u v : List ℕ} → x ≡ Ok (record { n = n; start = start }) → Totalled n start c t u
    → v ≡ cleared (word_length * work_words n) u → ((g : ℕ) → c ≡ capped g → y ≡ sum_judged g) → Answered t v x y
sum-answered {n} {start} {x} {y} {c} {t} {u} {v} e total clears told =
    let frame : Within 0 (word_length * work_words n) t u = within_wider 0 (word_length * work_words n) (omega arith) (work-least n) (beyond-work n total.besides.beyond) in
    let sum : SumGiven n start t v y = record { clears = clears ∙ cleared-same frame; sum = λ w column E unfolds. told _ (total.total w column E unfolds) } in
    record {
      given = λ m top q.
          let same = same-parts (sym e ∙ q) in
          rw (same.0, same.1) at sum;
      refused = λ why q. let z : ◌≡◌ {A = ℕ} 0 1 = cc in absurd (omega arith);
    }

-- and where something is turned down
pub refused-answered : {why : Refusal} {x : Result Checked Refusal} {t : List ℕ} → x ≡ Err why → Answered t t x (Err why)
refused-answered {why} {x} {t} e =
    record {
      given = λ m top q. let z : ◌≡◌ {A = ℕ} 0 1 = cc in absurd (omega arith);
      refused = λ other q. let same : Err why ≡ Err other = sym e ∙ q in let p : why ≡ other = cc in (rw p, refl);
    }
