-- One mark after the other. Assumes nothing.
use Rattle.rule.specs.Names.{pair_one, pair_two}
use Rattle.copy_marks.proofs.Marks.{marked-two, name-fits, nameable-kept}
use Rattle.copy_marks.proofs.mark_two.Goals as goal

pub mark_one-requires : goal.mark_one-requires
mark_one-requires c = name-fits c.requires pair_one

pub mark_one-requires-2 : goal.mark_one-requires-2
mark_one-requires-2 c = name-fits (nameable-kept c.mark_one.ensures.only c.requires) pair_two

pub returns : goal.returns
returns c = marked-two c.mark_one.ensures c.mark_one-2.ensures
