-- The words are the definition's of the row's rule, and are written one after the other. Assumes nothing.
use Rattle.label_annotate.proofs.Marks.{marked_row}
use Rattle.label_annotate.proofs.mark_row.Goals as goal

pub returns : goal.returns
returns c =
    marked_row _ _ c.args.found _ c.args.class c.rule_at-rule.ensures c.own-own.ensures c.seen-visible.ensures c.seen_word.ensures
    c.put16.ensures c.put16-2.ensures
