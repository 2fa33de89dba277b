-- The rules named have rows, and names that fit a word. Assumes nothing.
use native.Mathlib.Omega.{arith}
use Rattle.rule.specs.Names.{join_one, join_two}
use Rattle.copy_rows.proofs.Rules.{named-fits}
use Rattle.copy_rows.proofs.shut_of.Goals as goal

pub around-requires : goal.around-requires
around-requires c = (named-fits c.in-Join.is c.requires.0 _ join_one, named-fits c.in-Join.is c.requires.0 _ join_two, omega arith)
