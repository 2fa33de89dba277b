-- The invariant: the rules at the first i places have their counts, and nothing else has changed (`Passing`). Assumes nothing.
use Rattle.std.proofs.Common.{arith}
use Rattle.count_all.proofs.Passes.{passing-countable, passing-more, passing-end}
use Rattle.count_all.proofs.count_rows.Goals as goal

pub count_row-requires : goal.count_row-requires
count_row-requires c = passing-countable c.requires c.loop-i.invariant c.order_at-r.ensures (omega arith)

pub loop-i-preserved : goal.loop-i-preserved
loop-i-preserved c = passing-more c.requires c.loop-i.invariant c.loop-i-test.true c.order_at-r.ensures c.count_row.ensures

pub returns : goal.returns
returns c = passing-end c.requires c.loop-i.invariant c.loop-i-test.false
