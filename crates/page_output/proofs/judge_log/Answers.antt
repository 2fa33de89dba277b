-- The tests in turn. Assumes nothing.
use mathlib.Core.Path.{sym, ap, ◌∙◌}
use Rattle.page_output.specs.Pages.{other_judged}
use Rattle.page_output.proofs.Judging.{log-long, log-read}
use Rattle.page_output.proofs.judge_log.Goals as goal

pub returns-then-log-gt-MOST_LOGGED : goal.returns-then-log-gt-MOST_LOGGED
returns-then-log-gt-MOST_LOGGED c = log-long c.args.log.now c.if-log-gt-MOST_LOGGED.true

pub returns-in-Some : goal.returns-in-Some
unfolding other_judged
returns-in-Some c = let past_first = c in
    let entry = past_first in
    log-read entry.args.log.now past_first.if-log-gt-MOST_LOGGED.false (sym (c.in-Some.is) ∙ past_first.first_other.ensures)

pub returns-in-None : goal.returns-in-None
unfolding other_judged
returns-in-None c = let past_first = c in
    let entry = past_first in
    log-read entry.args.log.now past_first.if-log-gt-MOST_LOGGED.false (sym (c.in-None.is) ∙ past_first.first_other.ensures)
