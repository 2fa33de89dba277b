-- Rules that pass leave the answer to the search and the start, and a refusal is the answer; rules that name only lower ones are not
-- searched. Assumes nothing.
use native.Mathlib.Omega.{arith}
use mathlib.Core.Bool.{Bool}
use mathlib.Core.Path.{sym, subst, ◌∙◌}
use Rattle.std.specs.Prelude.{Ok}
use Rattle.refusal.proofs.Passed.{handed-on}
use Rattle.record.specs.RuleRecords.{records_lent}
use Rattle.reach.proofs.Orders.{lower-none}
use Rattle.judge.specs.Judge.{cycle_judged, judged}
use Rattle.judge.specs.Tested.{Tells}
use Rattle.judge.proofs.Searching.{searchable}
use Rattle.judge.proofs.judge_rules.Goals as goal

pub returns-in_err-lower : goal.returns-in_err-lower
unfolding Tells judged
returns-in_err-lower c =
    handed-on c.from_residual.result c.from_residual.ensures.1 ∙ sym (c.in_err-lower.ensures _)

pub search-requires : goal.search-requires
search-requires c = (searchable c.args.rules.now c.in_ok-lower.ensures c.if-lower.false c.requires, omega arith, omega arith)

pub search-requires-2 : goal.search-requires-2
search-requires-2 c = let few = c.requires in (searchable c.args.rules.now c.in_ok-lower.ensures c.if-lower.false few, omega arith, omega arith)

pub returns-then-lower : goal.returns-then-lower
unfolding Tells judged cycle_judged
returns-then-lower c =
    let told = subst (λ (b : Bool). Tells c.args.rules.now.format (records_lent c.args.rules.now) (Ok b)) c.if-lower.true c.in_ok-lower.ensures in
    c.judge_start.ensures ∙ sym (told.0 _ ∙ rw (lower-none _ told.1))

pub returns-then-rules-le-FEW_SEARCHED : goal.returns-then-rules-le-FEW_SEARCHED
unfolding judged
returns-then-rules-le-FEW_SEARCHED c =
    c.search.ensures ∙ sym ((searchable c.args.rules.now c.in_ok-lower.ensures c.if-lower.false c.requires).passed _)

pub returns : goal.returns
unfolding judged
returns c =
    c.search-2.ensures ∙ sym ((searchable c.args.rules.now c.in_ok-lower.ensures c.if-lower.false c.requires).passed _)
