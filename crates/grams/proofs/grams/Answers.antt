-- Each step leaves what the next one asks. Assumes nothing.
use Rattle.grams.proofs.Steps.{judged, annotatable, answerable, outcome}
use Rattle.grams.proofs.grams.Goals as goal

pub load_judged-ready-requires : goal.load_judged-ready-requires
load_judged-ready-requires c = judged c.args.plan.now c.args.rows.now c.check-judged.ensures c.judge_list-listed.ensures

pub annotate-requires : goal.annotate-requires
annotate-requires c =
    annotatable c.args.plan.now c.args.rows.now c.args.work.now c.check-judged.ensures c.judge_list-listed.ensures c.load_judged-ready.ensures c.loaded-n.ensures

pub answer-requires : goal.answer-requires
answer-requires c =
    answerable c.args.plan.now c.args.rows.now c.args.work.now c.check-judged.ensures c.judge_list-listed.ensures c.load_judged-ready.ensures c.loaded-n.ensures
    c.annotate.ensures

pub returns : goal.returns
returns c =
    outcome c.args.plan.now c.args.rows.now c.args.work.now c.check-judged.ensures c.judge_list-listed.ensures c.load_judged-ready.ensures c.loaded-n.ensures
    c.annotate.ensures c.answer.ensures
