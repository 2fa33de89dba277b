-- A label from the lowest on is as far above it as their difference says; one below wraps to 2^32 less what is missing, which is above the
-- row's width. Assumes nothing.
use Rattle.std.proofs.Common.{◌≡◌, ℕ, ◌+◌, ◌-◌, ◌%◌, ◌^◌, ◌<◌, ◌≤◌, ltb, leb, refl, sym, ◌∙◌, arith, ltb-false, ltb-true, leb-false, leb-true}
use borrow.Table.Steps.{cases}
use Rattle.label_rows.specs.declared.LabelRow.{LabelRow}
use Rattle.label_rows.specs.Class.{covers}
use Rattle.label_rows.proofs.Rows.{covers-inside, covers_below, covers-above}
use Rattle.label_rows.proofs.LabelRow.covers.Goals as goal

wrapped : (r : LabelRow) (d x : ℕ) → x < 2 ^ 32 → r.highest < 2 ^ 32 → r.lowest ≤ r.highest → d ≡ (x + (2 ^ 32 - r.lowest)) % 2 ^ 32
    → leb d (r.highest - r.lowest) ≡ covers r x
wrapped r d x x-fits high_fits rises e =
    cases (leb d (r.highest - r.lowest))
    (λ near. let n = leb-true d (r.highest - r.lowest) near in near ∙ sym (covers-inside r x (omega arith) (omega arith)))
    (λ far.
    let f = leb-false d (r.highest - r.lowest) far in
    cases (ltb x r.lowest)
    (λ under. far ∙ sym (covers_below r x (ltb-true x r.lowest under)))
    (λ over. let o = ltb-false x r.lowest over in far ∙ sym (covers-above r x (omega arith))))

pub returns : goal.returns
returns c = wrapped c.args.self _ c.args.label (omega arith) (omega arith) c.requires refl
