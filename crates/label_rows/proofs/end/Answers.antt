-- Past the last row: whether the next label is one. Assumes nothing.
use Rattle.std.proofs.Common.{◌<◌, ◌≤◌, sym, arith}
use Rattle.rule.specs.Rule.{largest_label}
use Rattle.label_rows.proofs.Steps.{ended-short, ended-whole}
use Rattle.label_rows.proofs.end.Goals as goal

pub returns-then-next-le-WIDE_LABEL : goal.returns-then-next-le-WIDE_LABEL
returns-then-next-le-WIDE_LABEL c = let h : c.args.next ≤ largest_label = omega (arith, c.if-next-le-WIDE_LABEL.true) in
    sym (ended-short _ _ h)

pub returns : goal.returns
returns c = let h : largest_label < c.args.next = omega (arith, c.if-next-le-WIDE_LABEL.false) in
    sym (ended-whole _ _ h)
