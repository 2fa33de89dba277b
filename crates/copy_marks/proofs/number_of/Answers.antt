-- The number is one below the mark. Assumes nothing.
use Rattle.copy_marks.proofs.Marks.{number-none, number-some}
use Rattle.copy_marks.proofs.number_of.Goals as goal

pub returns-then-mark-eq0 : goal.returns-then-mark-eq0
returns-then-mark-eq0 c = number-none _ _ _ c.mark_in-mark.ensures c.if-mark-eq0.true

pub returns : goal.returns
returns c = number-some _ _ _ c.mark_in-mark.ensures
