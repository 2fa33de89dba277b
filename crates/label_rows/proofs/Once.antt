-- A sound list covers each label once, and the class that it gives is that row's; and a list of valid rows in label order that covers
-- each label once is sound. Assumes nothing.
use Rattle.std.specs.Prelude.{Ok}
use Rattle.std.proofs.Common.{◌≡◌, ℕ, ◌+◌, ◌<◌, ◌≤◌, ltb, List, [], ◌∷◌, length, ap, subst, arith, ltb-false, ltb-true, le-leb}
use borrow.Table.Steps.{cases}
use Rattle.rule.specs.Rule.{largest_label}
use Rattle.label_rows.specs.declared.LabelRow.{LabelRow}
use Rattle.label_rows.specs.Coverage.{coverage}
use Rattle.label_rows.specs.Class.{row_of, label_judged, class_in, classed}
use Rattle.label_rows.specs.Once.{covering, Each, Valid, InOrder, Covers, Told}
use Rattle.label_rows.proofs.Rows.{covering-beyond}
use Rattle.label_rows.proofs.Chain.{Chain, chain-once}
use Rattle.label_rows.proofs.Told.{covers-chain, told, told-only}

whole_covers : {rows : List LabelRow} → Told rows (Ok tt) → Covers (largest_label + 1) rows
whole_covers (Told.whole c) = c

module _ (rows : List LabelRow) where
  -- a sound list: valid rows in label order that cover each label once
  pub sound-covers : coverage rows ≡ Ok tt → Covers (largest_label + 1) rows
  sound-covers e = whole_covers (subst (Told rows) e (told rows))

  pub sound-chain : coverage rows ≡ Ok tt → Chain 0 rows (largest_label + 1)
  sound-chain e = covers-chain rows (sound-covers e)

  -- "together they must cover 0 to 16,777,215 once"
  pub once : coverage rows ≡ Ok tt → (x : ℕ) → x ≤ largest_label → covering rows x ≡ row_of rows x ∷ []
  once e x h = chain-once x (omega arith) (omega arith) (sound-chain e)

  -- "It answers the class of any label when the list is sound"
  pub class-given : coverage rows ≡ Ok tt → (x : ℕ) → x ≤ largest_label
      → (r : LabelRow) × (covering rows x ≡ r ∷ []) × (classed rows x ≡ Ok r.class)
  unfolding classed class_in label_judged
  class-given e x h = (row_of rows x, once e x h, rw (e, le-leb x largest_label h))

  -- the converse
  pub once-sound : Each Valid rows → InOrder rows → ((x : ℕ) → x ≤ largest_label → length (covering rows x) ≡ 1) → coverage rows ≡ Ok tt
  once-sound v o n = told-only rows (Told.whole record {
    valid = v;
    order = o;
    once = λ x. cases (ltb x (largest_label + 1))
        (λ t. let h : x < largest_label + 1 = ltb-true _ _ t in rw t (n x (omega arith)))
        (λ t. let h : largest_label + 1 ≤ x = ltb-false _ _ t in rw t (ap length (covering-beyond rows x (omega arith) v)));
  })
