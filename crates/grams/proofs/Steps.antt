-- Each step of grams leaves what the next one asks, whatever was judged: where something is turned down no rules are loaded, nothing is
-- annotated, and the answer is that refusal; else the rows hold the plan's rules and the grams of their own labels, and the start rule's sum is
-- that over its forest's nodes. Assumes nothing.
use Rattle.std.specs.Prelude.{Result, Ok, Err}
use Prim.Native.Nat.{ℕ, ◌*◌, ◌≤◌}
use native.Mathlib.Omega.{arith}
use mathlib.Core.List.{List}
use mathlib.Core.Path.{◌≡◌, refl, sym, ap, ◌∙◌}
use lib.ListN.{length}
use Rattle.refusal.specs.declared.Refusal.{Refusal}
use Rattle.reach.specs.Order.{rank}
use Rattle.plan.specs.declared.Checked.{Checked}
use Rattle.plan.specs.Check.{checked, rules_of}
use Rattle.forest.specs.Expression.{expression}
use Rattle.forest.specs.Forest.{forest}
use Rattle.forest.specs.Outcome.{enough_work, work_judged, work_after}
use Rattle.label_rows.specs.declared.LabelRow.{LabelRow}
use Rattle.label_rows.specs.Coverage.{coverage}
use Rattle.label_rows.specs.Class.{grams_of}
use Rattle.list_judge.specs.Listed.{list_judged}
use Rattle.list_judge.proofs.Passed.{list-passed}
use Rattle.work_rows.specs.Rows.{work_length, rule_in}
use Rattle.work_rows.proofs.Rows.{within_both}
use Rattle.work_rows.proofs.Work.{work-cleared, beyond-work}
use Rattle.work_load.specs.Prepared.{Judged, Loads, Prepared}
use Rattle.count_passes.specs.Tally.{Unfolds}
use Rattle.count_passes.proofs.Column.{besides-rule}
use Rattle.count_passes.proofs.Ordered.{ready-besides}
use Rattle.count_passes.proofs.Work.{Held, held}
use Rattle.count_weights.specs.Weights.{WeightColumn, own_weight}
use Rattle.count_weights.proofs.Meaning.{weight-value}
use Rattle.label_annotate.specs.Annotated.{Annotatable, Annotated}
use Rattle.label_annotate.proofs.Rules.{sound-annotatable}
use Rattle.grams.specs.Grams.{sum_judged, weighed_from, weighed, weighed_work}
use Rattle.grams.specs.Steps.{loaded_rules, Answerable, SumGiven, Answered}

-- the answer and the work that grams gives
abbrev pub Outcome : List ℕ → List LabelRow → List ℕ → Result ℕ Refusal → List ℕ → Type 0
Outcome s rows work y v = (y ≡ weighed s rows work) × (v ≡ weighed_work s rows work)

module _ (s : List ℕ) (rows : List LabelRow) {j l : Result Checked Refusal} (e : j ≡ checked s) (f : l ≡ list_judged (coverage rows) j) where
  pub judged : Judged s l
  judged = record { accepts = λ n start q. sym e ∙ (list-passed (coverage rows) j (sym f ∙ q)).1 }

  sound-list : {n start : ℕ} → l ≡ Ok (record { n = n; start = start }) → coverage rows ≡ Ok tt
  sound-list q = (list-passed (coverage rows) j (sym f ∙ q)).0

-- behind a list that is sound or turned down, rules loaded
module _ (s : List ℕ) (rows : List LabelRow) (work : List ℕ) {j l x : Result Checked Refusal} {t : List ℕ}
    (e : j ≡ checked s) (f : l ≡ list_judged (coverage rows) j) (p : Prepared s work t l x) where
  annotatable-by : (y : Result Checked Refusal) → x ≡ y → Annotatable rows (loaded_rules y) t
  unfolding loaded_rules
  annotatable-by (Ok x) q =
      let h : Held s x.n x.start t = held p q in
      let room : work_length * x.n ≤ length t = h.room in
      sound-annotatable (rules_of s) rows x.n t (p.loaded x.n x.start q).arranged.rows (rank (rules_of s)) h.accepted.sound h.accepted.rules
      (sound-list s rows e f (p.judged x.n x.start q)) (omega arith)
  annotatable-by (Err why) q =
      record {
        sound = λ some. absurd (omega arith);
        room = omega arith;
        labels = λ r below. absurd (omega arith);
      }

  pub annotatable : {n : ℕ} → n ≡ loaded_rules x → Annotatable rows n t
  annotatable q = rw q (annotatable-by x refl)

  -- the rows annotated
  module _ {n : ℕ} (q : n ≡ loaded_rules x) {u : List ℕ} (a : Annotated rows 0 n t u) where
    annotated : {m start : ℕ} → x ≡ Ok (record { n = m; start = start }) → Annotated rows 0 m t u
    unfolding loaded_rules
    annotated r = rw (q, r) at a

    unannotated : {why : Refusal} → x ≡ Err why → u ≡ t
    unfolding loaded_rules
    unannotated r = let z : Annotated rows 0 0 t u = rw (q, r) at a in z.besides.beyond.same_after

    pub answerable : Answerable u x
    answerable =
        record {
          rows = λ m start r.
              let h : Held s m start t = held p r in
              let b : Annotated rows 0 m t u = annotated r in
              let same : length u ≡ length t = b.besides.beyond.same_length in
              record {
                ready = ready-besides b.besides (omega arith) h.ready;
                below = h.below;
                words = omega (arith, h.words);
              };
        }

    -- the answer
    module _ {y : Result ℕ Refusal} {v : List ℕ} (g : Answered u v x y) where
      summed : {m start : ℕ} → x ≡ Ok (record { n = m; start = start }) → Outcome s rows work y v
      unfolding forest weighed weighed_from weighed_work
      summed {m} {start} r =
          let h : Held s m start t = held p r in
          let b : Annotated rows 0 m t u = annotated r in
          let same : (k : ℕ) → rule_in u k ≡ rule_in t k = besides-rule b.besides (omega arith) in
          let unfolds : Unfolds u m (expression (rules_of s)) = record { unfolds = λ k below. rw (same k) (h.unfolds.unfolds k below) } in
          let column : WeightColumn (grams_of rows) u m = λ k below. b.grams k below ∙ ap (own_weight (grams_of rows)) (sym (same k)) in
          let z : SumGiven m start u v y = g.given m start r in
          let d : Loads s work t m start = p.loaded m start r in (
            z.sum (grams_of rows) column (expression (rules_of s)) unfolds
                ∙ ap sum_judged (weight-value (grams_of rows) h.closed)
                ∙ ap (weighed_from rows (rules_of s)) (sym r ∙ p.answer ∙ ap (work_judged work) (f ∙ ap (list_judged (coverage rows)) e)),
            z.clears
                ∙ work-cleared (λ k. enough_work k work) l work m start (p.judged m start r) d.enough u (within_both d.arranged.within (beyond-work m b.besides.beyond))
                ∙ ap (λ (c : Result Checked Refusal). work_after (λ k. enough_work k work) c work) (f ∙ ap (list_judged (coverage rows)) e),
          )

      turned_down_lem : {why : Refusal} → x ≡ Err why → Outcome s rows work y v
      unfolding weighed weighed_from weighed_work
      turned_down_lem {why} r =
          let z = g.refused why r in (
            z.0 ∙ ap (weighed_from rows (rules_of s)) (sym r ∙ p.answer ∙ ap (work_judged work) (f ∙ ap (list_judged (coverage rows)) e)),
            z.1 ∙ unannotated r ∙ p.refused why r ∙ ap (λ (c : Result Checked Refusal). work_after (λ k. enough_work k work) c work) (f ∙ ap (list_judged (coverage rows)) e),
          )

      outcome-by : (c : Result Checked Refusal) → x ≡ c → Outcome s rows work y v
      outcome-by (Ok x) r = summed r
      outcome-by (Err why) r = turned_down_lem r

      pub outcome : Outcome s rows work y v
      outcome = outcome-by x refl
