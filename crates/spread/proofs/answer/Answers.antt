-- The rule is counted, and where the output has room for them the rule is spread. Assumes nothing.
use Rattle.spread.proofs.Answers.{countable, refused, tasks-next, spreadable, spread-out}
use Rattle.spread.proofs.answer.Goals as goal

pub count-counts-requires : goal.count-counts-requires
count-counts-requires c = countable c.requires

pub returns-then-not-fits : goal.returns-then-not-fits
returns-then-not-fits c = refused c.requires c.count-counts.ensures _ _ c.fits.ensures c.if-not-fits.true

pub task_rows-requires : goal.task_rows-requires
task_rows-requires c = tasks-next c.requires c.count-counts.ensures

pub spread_rule-requires : goal.spread_rule-requires
spread_rule-requires c = spreadable c.requires c.count-counts.ensures _ _ c.fits.ensures c.if-not-fits.false
    c.task_rows.ensures

pub returns : goal.returns
returns c = spread-out c.requires c.count-counts.ensures _ _ c.fits.ensures c.if-not-fits.false
    c.task_rows.ensures c.spread_rule.ensures
