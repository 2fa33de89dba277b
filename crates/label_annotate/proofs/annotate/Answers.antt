-- A turn finds the row of its rule's label and marks its row. Assumes nothing.
use Rattle.std.proofs.Common.{ℕ, ◌<◌, ◌≤◌, ◌^◌, ap, sym, subst, ◌∙◌, arith}
use Rattle.rule.specs.Rule.{largest_label}
use Rattle.label_rows.specs.declared.LabelRow.{LabelRow}
use Rattle.label_rows.specs.Class.{row_of}
use Rattle.label_annotate.specs.Annotated.{marked}
use Rattle.label_annotate.proofs.Marks.{next-label, annotated-more}
use Rattle.label_annotate.proofs.annotate.Goals as goal

pub find-row-requires : goal.find-row-requires
find-row-requires c =
    let below : c.loop-r.r < c.args.n = omega arith in
    let some : 0 < c.args.n = omega arith in (
      c.requires.sound some,
      subst (λ (k : ℕ). k ≤ largest_label) (sym c.label_at-label.ensures)
          (next-label c.args.rows.now c.args.class c.args.n c.loop-r.r c.args.work.now c.loop-r.work c.requires below c.loop-r.invariant),
    )

pub loop-r-preserved : goal.loop-r-preserved
loop-r-preserved c =
    let below : c.loop-r.r < c.args.n = omega arith in
    let found = c.find-row.ensures ∙ ap (row_of c.args.rows.now) c.label_at-label.ensures in
    let small : c.find-row.result.grams < 2 ^ 16 = omega (arith, c.find-row.type_inv) in
    annotated-more c.args.rows.now c.args.class c.args.n c.loop-r.r c.args.work.now c.loop-r.work c.requires below c.loop-r.invariant c.mark_row.new.work
    (subst (λ (g : LabelRow). g.grams < 2 ^ 16) found small)
    (c.mark_row.ensures ∙ ap (λ (g : LabelRow). marked c.loop-r.work c.loop-r.r g.class g.grams c.args.class) found)
