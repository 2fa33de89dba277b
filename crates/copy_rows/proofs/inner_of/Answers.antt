-- The rules that a part names are few. Assumes nothing.
use Rattle.rule.specs.Names.{part_one, part_two}
use Rattle.copy_rows.proofs.Rules.{named_in}
use Rattle.copy_rows.proofs.inner_of.Goals as goal

pub pair-requires : goal.pair-requires
pair-requires c = (named_in c.in-Part.is c.requires _ part_one, named_in c.in-Part.is c.requires _ part_two)
