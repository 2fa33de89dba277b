-- Check refuses the plan, or its line is printed next. Assumes nothing.
use native.Mathlib.Omega.{arith}
use mathlib.Core.Path.{sym, ◌∙◌}
use Rattle.decimal.proofs.Next.{put_front, put-taken}
use Rattle.listing.proofs.Printed.{line-long, plan-without, plan-next, plan-with}
use Rattle.listing.proofs.list_plan.Goals as goal

pub returns-then-not-accepted : goal.returns-then-not-accepted
returns-then-not-accepted c = plan-without c.requires.0 c.requires.1 (sym c.accepted.ensures ∙ c.if-not-accepted.true)

pub put_line-end-requires : goal.put_line-end-requires
put_line-end-requires c = omega (arith, line-long c.args.plan.now, c.requires.1.long)

pub slice_bounds-emit-end : goal.slice_bounds-emit-end
slice_bounds-emit-end c = put-taken c.put_line-end.ensures

pub emit-requires : goal.emit-requires
emit-requires c =
    let test = sym c.accepted.ensures ∙ c.if-not-accepted.false in
    plan-next c.requires.0 c.requires.1 test (put_front c.put_line-end.ensures)

pub returns : goal.returns
returns c =
    let test = sym c.accepted.ensures ∙ c.if-not-accepted.false in
    plan-with c.requires.0 c.requires.1 test (put_front c.put_line-end.ensures) c.emit.ensures
