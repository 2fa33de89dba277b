-- The class of a label, by cases on what is judged of the list and the label. Assumes nothing.
use Rattle.std.specs.Prelude.{Result, Ok, Err}
use Rattle.std.proofs.Common.{◌≡◌, ℕ, ◌≤◌, leb, List, refl, arith, leb-true}
use borrow.Table.Steps.{cases}
use Rattle.refusal.specs.declared.Refusal.{Refusal}
use Rattle.rule.specs.Rule.{largest_label}
use Rattle.label_rows.specs.declared.LabelRow.{LabelRow}
use Rattle.label_rows.specs.Coverage.{coverage}
use Rattle.label_rows.specs.Class.{row_of, label_judged, class_in, classed}

-- where nothing is refused, the list is sound and the label is one
pub label-whole : (c : Result Unit Refusal) (x : ℕ) → label_judged c x ≡ Ok tt → (c ≡ Ok tt) × (x ≤ largest_label)
unfolding label_judged
label-whole (Ok _) x e =
    cases (leb x largest_label)
    (λ t. (refl, leb-true x largest_label t))
    (λ t. let z : ◌≡◌ {A = Result Unit Refusal} (Err (Refusal.Malformed 0)) (Ok tt) = rw t at e in let n : ◌≡◌ {A = ℕ} 0 1 = cc in absurd (omega arith))
label-whole (Err why) x e = let n : ◌≡◌ {A = ℕ} 0 1 = cc in absurd (omega arith)

module _ (rows : List LabelRow) (x : ℕ) where
  pub classed-whole : label_judged (coverage rows) x ≡ Ok tt → classed rows x ≡ Ok (row_of rows x).class
  unfolding classed class_in
  classed-whole e = rw e

  pub classed-refused : (why : Refusal) → label_judged (coverage rows) x ≡ Err why → classed rows x ≡ Err why
  unfolding classed class_in
  classed-refused why e = rw e
