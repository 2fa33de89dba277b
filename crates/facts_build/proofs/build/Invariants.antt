-- The loop's invariant: the rows of the rules at the first i places of the order are built. Assumes nothing.
use Rattle.work_rows.specs.Rows.{first_rules}
use Rattle.work_rows.specs.Order.{order_in}
use Rattle.facts_build.proofs.Filling.{BuiltTo}
use Rattle.facts_build.proofs.build.Given as goal

abbrev pub invariant-loop-i : goal.invariant-loop-i
invariant-loop-i l = BuiltTo (first_rules l.initial.work l.n) (order_in l.initial.work l.n) l.n l.i l.initial.work l.work
