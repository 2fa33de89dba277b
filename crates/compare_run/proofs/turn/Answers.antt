-- The same task on top is skipped; else each answer is that of `unlike`. Assumes nothing.
use Rattle.compare_run.proofs.Made.{countable-top, made-skipped-top, made_at}
use Rattle.compare_run.proofs.turn.Goals as goal

pub skip-requires : goal.skip-requires
skip-requires c = (countable-top c.top-v.ensures c.requires.reads_one, c.requires.counted)

pub returns-then-v-w : goal.returns-then-v-w
returns-then-v-w c = made-skipped-top c.top-v.ensures c.top-w.ensures c.if-v-w.true c.skip.ensures

pub returns : goal.returns
returns c = made_at c.top-v.ensures c.top-w.ensures c.unlike.ensures
