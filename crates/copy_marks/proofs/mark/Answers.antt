-- The start is marked, then what it reaches. Assumes nothing.
use Rattle.words.proofs.Within.{within_both}
use Rattle.copy_marks.proofs.Marks.{kept-markable, marked_from}
use Rattle.copy_marks.proofs.mark.Goals as goal

pub mark_all-requires : goal.mark_all-requires
mark_all-requires c = kept-markable _ (within_both c.clear_marks.ensures.only c.mark_one.ensures.only) c.requires.0

pub returns : goal.returns
returns c = marked_from c.clear_marks.ensures c.mark_one.ensures c.mark_all.ensures
