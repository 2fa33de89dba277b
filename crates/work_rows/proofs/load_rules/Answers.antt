-- The rules stand right before the trailer, in the plan's format. Assumes nothing.
use native.Mathlib.Omega.{arith}
use Rattle.work_rows.proofs.load_rules.Goals as goal

pub first-first-requires : goal.first-first-requires
first-first-requires c = rw c.format-format.ensures c.requires.0

pub invariant_of-rules : goal.invariant_of-rules
invariant_of-rules c = rw (c.first-first.ensures, c.format-format.ensures) (omega (arith, c.requires.0))

pub load-requires : goal.load-requires
load-requires c = let p = c.requires in (p.1, rw (c.first-first.ensures, c.format-format.ensures) p.2)

pub returns : goal.returns
returns c = rw (c.first-first.ensures, c.format-format.ensures) at c.load.ensures
