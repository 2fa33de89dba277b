-- One mark is written. Assumes nothing.
use Rattle.copy_marks.proofs.Marks.{marked-one}
use Rattle.copy_marks.proofs.mark_one.Goals as goal

pub returns : goal.returns
returns c = marked-one c.requires.0 c.requires.1 c.put_mark.ensures
