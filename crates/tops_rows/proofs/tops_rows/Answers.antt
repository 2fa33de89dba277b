-- The invariant: the rows at the first i places have their numbers (`Passing`). Assumes nothing.
use native.Mathlib.Omega.{arith}
use Rattle.tops_rows.proofs.Passing.{passing-readable, passing-more, passing-end}
use Rattle.tops_rows.proofs.tops_rows.Goals as goal

pub tops_row-requires : goal.tops_row-requires
tops_row-requires c = passing-readable c.requires c.loop-i.invariant c.order_at-r.ensures (omega arith)

pub loop-i-preserved : goal.loop-i-preserved
loop-i-preserved c = passing-more c.requires c.loop-i.invariant c.loop-i-test.true c.order_at-r.ensures
    c.tops_row.ensures

pub returns : goal.returns
returns c = passing-end c.requires c.loop-i.invariant c.loop-i-test.false
