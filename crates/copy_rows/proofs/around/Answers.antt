-- The three right-hand sides are read, then put together. Assumes nothing.
use Rattle.copy_rows.proofs.Rules.{put-rows}
use Rattle.copy_rows.proofs.around.Goals as goal

pub returns : goal.returns
returns c = let a = c.args in put-rows a.work.now a.b a.c a.t c.put.ensures c.rule_in-whole.ensures c.rule_in-shut.ensures c.rule_in-z.ensures c.name.ensures c.name-2.ensures
